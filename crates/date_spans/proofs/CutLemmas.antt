-- A text is cut from the left.
use Rattle.std.proofs.Common.{◌≡◌, ℕ, Bool, true, false, None, List, [], ◌∷◌, ◌++◌, ap, refl, sym, ◌∙◌, ◌&&◌, ◌||◌}
use Rattle.std.proofs.Common.{append_assoc, append-nil}
use Rattle.std.specs.List.{list_any}
use Rattle.std.specs.Prelude.{not}
use Rattle.std.specs.Str.{bytes_eq}
use Rattle.std.proofs.lemmas.Bool.{or_parts}
use Rattle.std.proofs.lemmas.List.Folds.{list_any-append}
use Rattle.written_dates.specs.declared.tokens.Kind.{Kind}
use Rattle.written_dates.specs.declared.tokens.Kind.TheVariants.{Blank}
use Rattle.written_dates.specs.Fields.{spelling}
use Rattle.written_dates.specs.Signs.{is_dash}
use Rattle.written_dates.specs.Tokens.{Piece, tokens}
use Rattle.written_dates.proofs.FieldLemmas.{spelled}
use Rattle.date_spans.specs.declared.cuts.Cut.{Cut}
use Rattle.date_spans.specs.declared.cuts.Cut.TheVariants.{Slash}
use Rattle.date_spans.specs.private.CutViews.{is_slash_byte}
use Rattle.date_spans.specs.Cuts.{bytes_before, bytes_behind, count_cuts, cuts, sides}

pub before_here : (cut : Cut) (before : Kind) (text rest after front : List ℕ) (p : Piece)
    → tokens 0 rest ≡ p ∷ tokens 0 after → cuts cut before p ≡ true
    → front ++ bytes_before cut before (tokens 0 rest) ≡ bytes_before cut Blank (tokens 0 text)
    → front ≡ bytes_before cut Blank (tokens 0 text)
before_here cut before text rest after front p e h same = sym (append-nil front) ∙ (rw (e, h) at same)

pub behind_here : (cut : Cut) (before : Kind) (text rest after : List ℕ) (p : Piece)
    → tokens 0 rest ≡ p ∷ tokens 0 after → cuts cut before p ≡ true
    → bytes_behind cut before (tokens 0 rest) ≡ bytes_behind cut Blank (tokens 0 text)
    → after ≡ bytes_behind cut Blank (tokens 0 text)
behind_here cut before text rest after p e h same = sym (spelled 0 after) ∙ (rw (e, h) at same)

pub before_later : (cut : Cut) (before : Kind) (text rest after front : List ℕ) (p : Piece)
    → tokens 0 rest ≡ p ∷ tokens 0 after → cuts cut before p ≡ false
    → front ++ bytes_before cut before (tokens 0 rest) ≡ bytes_before cut Blank (tokens 0 text)
    → (front ++ p.text) ++ bytes_before cut p.kind (tokens 0 after) ≡ bytes_before cut Blank (tokens 0 text)
before_later cut before text rest after front p e h same =
    append_assoc front p.text (bytes_before cut p.kind (tokens 0 after)) ∙ (rw (e, h) at same)

pub behind_later : (cut : Cut) (before : Kind) (text rest after : List ℕ) (p : Piece)
    → tokens 0 rest ≡ p ∷ tokens 0 after → cuts cut before p ≡ false
    → bytes_behind cut before (tokens 0 rest) ≡ bytes_behind cut Blank (tokens 0 text)
    → bytes_behind cut p.kind (tokens 0 after) ≡ bytes_behind cut Blank (tokens 0 text)
behind_later cut before text rest after p e h same = rw (e, h) at same

pub count_later : (cut : Cut) (before : Kind) (text rest after : List ℕ) (p : Piece)
    → tokens 0 rest ≡ p ∷ tokens 0 after → cuts cut before p ≡ false
    → count_cuts cut before (tokens 0 rest) ≡ count_cuts cut Blank (tokens 0 text)
    → count_cuts cut p.kind (tokens 0 after) ≡ count_cuts cut Blank (tokens 0 text)
count_later cut before text rest after p e h same = rw (e, h) at same

-- ---- where the byte of a slash stands nowhere, there are no two sides of one
no_slash : (text : List ℕ) → list_any is_slash_byte text ≡ false → bytes_eq text (47 ∷ []) ≡ false
no_slash [] h = refl
no_slash (c ∷ cs) h =
    let none = (or_parts (is_slash_byte c) (list_any is_slash_byte cs) h).0 in
    rw none refl

uncut : (dash slash : Bool) → slash ≡ false → ((dash || slash) && not dash) ≡ false
uncut true slash h = refl
uncut false slash h = rw h refl

none_cut : (before : Kind) (ts : List Piece) → list_any is_slash_byte (spelling ts) ≡ false
    → count_cuts Slash before ts ≡ 0
none_cut before [] h = refl
none_cut before (p ∷ ts) h =
    let both = or_parts (list_any is_slash_byte p.text) (list_any is_slash_byte (spelling ts))
    (sym (list_any-append is_slash_byte p.text (spelling ts)) ∙ h) in
    let no : cuts Slash before p ≡ false
    = uncut (is_dash p.kind) (bytes_eq p.text (47 ∷ [])) (no_slash p.text both.0) in
    rw no (none_cut p.kind ts both.1)

pub no_sides : (text : List ℕ) → list_any is_slash_byte text ≡ false → sides Slash text ≡ None
unfolding sides
no_sides text h =
    let none = none_cut Blank (tokens 0 text) (ap (list_any is_slash_byte) (spelled 0 text) ∙ h) in
    rw none refl
