-- The lines on sheets.
use Rattle.std.proofs.Common.{◌≡◌, ◌<◌, ◌+◌, ◌∙◌, ◌++◌, ◌∷◌, ℕ, zero, suc, List, [], Bool, Some, ap}
use Rattle.std.proofs.Common.{append_assoc, append-nil, arith, codes, false, get_or, length, map, min, refl, subst, sym}
use Rattle.std.proofs.Common.{take, true, ◌==◌, Err, IfErr, IfOk, Ok, Result, if◌then◌else◌}
use Rattle.sheet_app.proofs.Common.{Text, DateCounts, Task}
use Rattle.std.proofs.KnownBytes.{Appends-nil, Appends-trans}
use Rattle.std.specs.List.{flat_map}
use Rattle.std.proofs.lemmas.List.{length-map, take_min, take_more}
use Rattle.std.proofs.lemmas.List.Concat.{flat_map-append}
use Rattle.std.proofs.lemmas.List.Elements.{All-pop}
use Rattle.register_records.specs.declared.outputs.Output as outputs
use Rattle.sheet_app.specs.EndedSheets.{AreReported, ended_lines}
use Rattle.sheet_app.specs.Lines.{listed}
use Rattle.sheet_app.specs.private.Lines.{listed_at}
use Rattle.sheet_app.specs.declared.converting.EndedSheet.{EndedSheet}
use Rattle.sheet_app.specs.private.SheetViews.{Says}

-- one text more
listed_more : (text : Text) (texts : List Text) (one : Text)
    → listed ((text ∷ texts) ++ one ∷ []) ≡ listed (text ∷ texts) ++ (codes ", " ++ one)
listed_more text texts one =
    ap (λ more. text ++ more) (flat_map-append (λ other. codes ", " ++ other) texts (one ∷ [])
    ∙ ap (λ more. flat_map (λ other. codes ", " ++ other) texts ++ more) (append-nil (codes ", " ++ one)))
    ∙ sym (append_assoc text (flat_map (λ other. codes ", " ++ other) texts) (codes ", " ++ one))

next_listed : (i : ℕ) (text : Text) → listed_at (suc i) text ≡ codes ", " ++ text
next_listed i text =
    let no : (suc i == 0) ≡ false = grind arith in
    ap (λ (b : Bool). if b then text else (codes ", " ++ text)) no

pub text_more : (line head : Text) (texts : List Text) (i : ℕ) (text : Text) → i < length texts
    → text ≡ get_or texts i [] → line ≡ head ++ listed (take i texts)
    → line ++ listed_at i text ≡ head ++ listed (take (i + 1) texts)
text_more line head [] i text within same is = absurd (omega (arith, within))
text_more line head (first ∷ texts) zero text within same is =
    rw (is, same) (rw (append-nil head, append-nil first) refl)
text_more line head (first ∷ texts) (suc i) text within same is =
    rw (
      next_listed i text,
      is,
      same,
      take_more (first ∷ texts) (suc i) [] within,
      listed_more first (take i texts) (get_or texts i []),
    ) (append_assoc head (listed (first ∷ take i texts)) (codes ", " ++ get_or texts i []))

-- the numbers of a summary, of their parts
pub counts_made : (head count refused comma empty : Text)
    → (((head ++ count) ++ refused) ++ comma) ++ empty ≡ head ++ (count ++ (refused ++ (comma ++ empty)))
counts_made head count refused comma empty =
    append_assoc ((head ++ count) ++ refused) comma empty ∙ append_assoc (head ++ count) refused (comma ++ empty)
    ∙ append_assoc head count (refused ++ (comma ++ empty))

-- what was gone over is what is told
pub shown : (f : DateCounts → List ℕ) (dates all : List DateCounts) (n k : ℕ) → k ≡ min n (length dates)
    → dates ≡ all → take k (map f dates) ≡ take n (map f all)
shown f dates all n k e same =
    ap (λ i. take i (map f dates)) (e ∙ ap (min n) (sym (length-map dates f))) ∙ take_min n (map f dates)
    ∙ ap (λ xs. take n (map f xs)) same

-- no sheet was reported yet
pub none_reported : {W E : Type 0} (e : outputs.Ghosts E) (task : Task) (before : E)
    → AreReported {W = W} e task [] before before
none_reported e task before = record { good = λ good. good; gained = λ all good. Appends-nil (e.contents before) }

-- one sheet more was
pub more_reported : {W E : Type 0} (e : outputs.Ghosts E) (task : Task) (sheets new : List (EndedSheet W))
    (sheet : EndedSheet W) (before between after : E) → new ≡ sheets ++ sheet ∷ []
    → AreReported e task sheets before between
    → Says e between after sheet.is_reported (ended_lines task sheet) → AreReported e task new before after
more_reported e task sheets new sheet before between after more are says = rw more (record {
  good = λ good. are.good (says.good good);
  gained = λ all good.
      let (first, last) = All-pop (λ (s : EndedSheet _). s.is_reported ≡ true) (sheets ++ sheet ∷ []) sheets (Some sheet)
      refl all in
      rw (flat_map-append (ended_lines task) sheets (sheet ∷ []), append-nil (ended_lines task sheet))
      (Appends-trans (e.contents before) (e.contents between) (e.contents after) _ _ (are.gained first (says.good good))
      (says.gained last good));
})

-- a line was said, or there was no memory for it
pub line_said : {E L X : Type 0} (e : outputs.Ghosts E) (before after : E) (said : Bool) (bytes : L → List ℕ)
    (line : Result L X) (text : List ℕ) → IfOk line (λ l. bytes l ≡ text)
    → IfOk line (λ l. Says e before after said (bytes l))
    → IfErr line (λ x. (said ≡ false) × (e.has_failed after ≡ false → e.has_failed before ≡ false)
    × (e.own_mark after ≡ e.own_mark before)) → Says e before after said text
line_said e before after said bytes (Ok l) text is says lost =
    subst (λ (t : List ℕ). Says e before after said t) is says
line_said e before after said bytes (Err x) text is says lost = record {
  good = lost.1;
  gained = λ yes good. let no = lost.0 in absurd (cc);
  marked = lost.2;
}

-- one sheet alone was reported
pub one_reported : {W E : Type 0} (e : outputs.Ghosts E) (task : Task) (sheet : EndedSheet W) (before after : E)
    → Says e before after sheet.is_reported (ended_lines task sheet) → AreReported e task (sheet ∷ []) before after
one_reported e task sheet before after says =
    more_reported e task [] (sheet ∷ []) sheet before before after refl (none_reported e task before) says
