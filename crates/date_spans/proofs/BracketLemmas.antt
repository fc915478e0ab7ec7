-- Where brackets were taken away, none is left.
use Rattle.std.proofs.Common.{◌≡◌, ℕ, Bool, true, false, List, [], ◌∷◌, ◌++◌, ◌||◌, ap, refl, sym, ◌∙◌, arith}
use Rattle.std.proofs.Common.{length, nat_lt, Option, Some, None}
use Rattle.std.specs.Prelude.{◌==◌, position, option_map, if◌then◌else◌}
use Rattle.std.specs.List.{list_any, position_or_len}
use Rattle.std.proofs.lemmas.Bool.{or_parts}
use Rattle.std.proofs.lemmas.Bool.Decides.{nat_tests}
use Rattle.std.proofs.lemmas.List.Folds.{list_any-append}
use Rattle.written_dates.specs.Fields.{without_blanks}
use Rattle.date_spans.specs.Brackets.{bracketed, closed, cut_at, if_only, is_bracket, joined, opened, without_brackets}

none_before : (text : List ℕ) → list_any is_bracket text ≡ false → position_or_len (λ c. c == 91) text ≡ length text
none_before [] h = refl
none_before (c ∷ cs) h =
    let parts = or_parts (is_bracket c) (list_any is_bracket cs) h in
    let no = or_parts (c == 91) (c == 93) parts.0 in
    let rest = none_before cs parts.1 in
    rw no.0 (omega (arith, rest))

not_less : (n : ℕ) → nat_lt n n ≡ false
not_less n = grind (arith, nat_tests)

nowhere : (text : List ℕ) → list_any is_bracket text ≡ false → position (λ c. c == 91) text ≡ None
nowhere text h = rw (none_before text h, not_less (length text)) refl

pub unbracketed : (text : List ℕ) → list_any is_bracket text ≡ false → without_brackets text ≡ None
unfolding bracketed
unbracketed text h = rw (nowhere text h) refl

-- ---- what is left has none
abbrev Parts : Type 0
Parts = List ℕ × List ℕ × List ℕ

only_by : (x : Bool) (parts : Parts) (bare : List ℕ)
    → option_map joined (if x then None else Some parts) ≡ Some bare → (x ≡ false) × (joined parts ≡ bare)
only_by true parts bare e = absurd (let no : ⊥ = cc in no)
only_by false parts bare e = (refl, cc)

three : (front within behind : List ℕ) → list_any is_bracket front ≡ false → list_any is_bracket within ≡ false
    → list_any is_bracket behind ≡ false → list_any is_bracket (front ++ (within ++ behind)) ≡ false
three front within behind a b c =
    list_any-append is_bracket front (within ++ behind)
    ∙ rw (a, list_any-append is_bracket within behind, b, c) refl

left_only : (front within behind bare : List ℕ) → option_map joined (if_only front within behind) ≡ Some bare
    → list_any is_bracket bare ≡ false
left_only front within behind bare e =
    let found = only_by (list_any is_bracket front || list_any is_bracket within || list_any is_bracket behind
    || (length (without_blanks within) == 0)) (front, within, behind) bare e in
    let some = or_parts (list_any is_bracket front || list_any is_bracket within || list_any is_bracket behind)
    (length (without_blanks within) == 0) found.0 in
    let two = or_parts (list_any is_bracket front || list_any is_bracket within) (list_any is_bracket behind) some.0 in
    let one = or_parts (list_any is_bracket front) (list_any is_bracket within) two.0 in
    ap (list_any is_bracket) (sym found.1) ∙ three front within behind one.0 one.1 two.1

left_closed : (front : List ℕ) (two : Option (List ℕ × List ℕ)) (bare : List ℕ)
    → option_map joined (closed front two) ≡ Some bare → list_any is_bracket bare ≡ false
left_closed front None bare e = absurd (let no : ⊥ = cc in no)
left_closed front (Some two) bare e = left_only front two.0 two.1 bare e

left_opened : (two : Option (List ℕ × List ℕ)) (bare : List ℕ)
    → option_map joined (opened two) ≡ Some bare → list_any is_bracket bare ≡ false
left_opened None bare e = absurd (let no : ⊥ = cc in no)
left_opened (Some two) bare e = left_closed two.0 (cut_at 93 two.1) bare e

pub left_bare : (text bare : List ℕ) → without_brackets text ≡ Some bare → list_any is_bracket bare ≡ false
unfolding bracketed
left_bare text bare e = left_opened (cut_at 91 text) bare e
