-- The mark of UTF-8 at the head of a sheet.
use Rattle.std.proofs.Common.{◌≡◌, ◌∙◌, ◌++◌, ℕ, List, [], Option, ap, drop, refl, subst, sym, take}
use Rattle.sheet_app.proofs.Common.{Appends}
use Rattle.std.proofs.KnownBytes.{Appends-nil, Appends-trans}
use Rattle.std.proofs.lemmas.List.{take-append-drop}
use Rattle.csv.specs.Reading.{strip_bom}
use Rattle.register_records.proofs.FieldLemmas.{mark_steps}
use Rattle.register_records.specs.Sources.{Gains}
use Rattle.register_records.specs.declared.outputs.Output as outputs
use Rattle.sheet_app.specs.Sheets.{HasMark, IsMarked}

-- a sheet that begins with it, and one that does not
pub marked : (sheet mark : List ℕ) → strip_bom sheet ≡ drop 3 sheet → mark ≡ take 3 sheet → HasMark sheet mark
marked sheet mark is same =
    sym (take-append-drop 3 sheet)
    ∙ ap (λ (front : List ℕ). front ++ drop 3 sheet) (sym same) ∙ ap (λ (rest : List ℕ). mark ++ rest) (sym is)

pub unmarked : (sheet mark : List ℕ) → strip_bom sheet ≡ sheet → mark ≡ [] → HasMark sheet mark
unmarked sheet mark is none = sym is ∙ ap (λ (front : List ℕ). front ++ strip_bom sheet) (sym none)

pub ruleset heads = (marked, unmarked, mark_steps)

-- bytes as said, behind the mark of a sheet
pub behind_mark : (sheet : List ℕ) (AreAsSaid : List ℕ → Type 0) (old marked new : Option (List ℕ))
    → Gains old marked (HasMark sheet) → Gains marked new AreAsSaid → Gains old new (IsMarked sheet AreAsSaid)
behind_mark sheet AreAsSaid old marked new (mark, its, first) (rest, said, second) = (
  mark ++ rest,
  record { mark = mark; rest = rest; has_mark = its; as_said = said; written = refl },
  Appends-trans old marked new mark rest first second,
)

-- an output that gained nothing
pub nothing : {W : Type 0} (o : outputs.Ghosts W) (marked written : W) → written ≡ marked
    → Appends (o.contents marked) (o.contents written) []
nothing o marked written same = subst (λ w. Appends (o.contents marked) (o.contents w) []) (sym same) (Appends-nil _)
