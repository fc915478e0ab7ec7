-- What is found in front is the longest name that stands there.
use Rattle.std.proofs.Common.{◌≡◌, ℕ, zero, suc, ◌<◌, ◌≤◌, Bool, true, false, ◌&&◌, nat_lt, List, [], ◌∷◌, cond, length, refl}
use Rattle.std.proofs.Common.{subst, ap, arith, Some, slice_get, ◌⊎◌, inl, inr}
use Rattle.std.proofs.lemmas.Bool.Decides.{nat_tests}
use Rattle.written_dates.specs.declared.meanings.Meaning.{Meaning}
use Rattle.written_dates.specs.declared.meanings.Meaning.TheVariants.{Nothing}
use Rattle.written_dates.specs.declared.meanings.Name.{Name}
use Rattle.written_dates.specs.Tokens.{Piece}
use Rattle.written_dates.specs.Parts.{parts, stands}
use Rattle.written_dates.specs.Items.{longest}
use Rattle.written_dates.specs.Laws.{StandsAt, FoundIsLongest, FoundStands}

abbrev size : Name → ℕ
size name = length (parts name.text.now)

abbrev of_two : Bool → ℕ × Meaning → ℕ × Meaning → ℕ × Meaning
of_two b name best = cond b name best

-- the better of the best so far and a name
abbrev better : List Piece → ℕ × Meaning → Name → ℕ × Meaning
better text best name =
    of_two (stands (parts name.text.now) text && nat_lt best.0 (size name)) (size name, name.meaning) best

no_worse_by : (best name : ℕ × Meaning) (s t : Bool) → nat_lt best.0 name.0 ≡ t
    → best.0 ≤ (of_two (s && t) name best).0
no_worse_by best name false t e = omega arith
no_worse_by best name true true e = let less : best.0 < name.0 = grind (arith, nat_tests) in omega arith
no_worse_by best name true false e = omega arith

no_worse : (text : List Piece) (best : ℕ × Meaning) (names : List Name) → best.0 ≤ (longest text best names).0
no_worse text best [] = omega arith
no_worse text best (name ∷ names) =
    let rest : (better text best name).0 ≤ (longest text (better text best name) names).0
    = no_worse text (better text best name) names in
    let here : best.0 ≤ (better text best name).0
    = no_worse_by best (size name, name.meaning) (stands (parts name.text.now) text) _ refl in
    omega (arith, rest, here)

as_good_by : (best name : ℕ × Meaning) (s t : Bool) → s ≡ true → nat_lt best.0 name.0 ≡ t
    → name.0 ≤ (of_two (s && t) name best).0
as_good_by best name true true h e = omega arith
as_good_by best name true false h e = let more : name.0 ≤ best.0 = grind (arith, nat_tests) in omega arith
as_good_by best name false t h e = absurd (cc)

as_good : (text : List Piece) (best : ℕ × Meaning) (names : List Name) (place : ℕ) (name : Name)
    → slice_get names place ≡ Some name → stands (parts name.text.now) text ≡ true
    → size name ≤ (longest text best names).0
as_good text best [] place name e h = absurd (cc)
as_good text best (first ∷ names) zero name e h =
    let same : first ≡ name = cc in
    let stood : stands (parts first.text.now) text ≡ true = rw same h in
    let rest : (better text best first).0 ≤ (longest text (better text best first) names).0
    = no_worse text (better text best first) names in
    let here : size first ≤ (better text best first).0
    = as_good_by best (size first, first.meaning) (stands (parts first.text.now) text) _ stood refl in
    let all : size first ≤ (longest text (better text best first) names).0 = omega (arith, rest, here) in
    let found = (longest text (better text best first) names).0 in
    subst (λ (x : Name). size x ≤ found) same all
as_good text best (first ∷ names) (suc place) name e h = as_good text (better text best first) names place name e h

pub found_is_longest : FoundIsLongest
found_is_longest text names place name at = as_good text (0, Nothing) names place name at.there at.stands

abbrev OneOf : List Piece → List Name → ℕ × Meaning → Type 0
OneOf text names found =
    (place : ℕ) × (name : Name) × StandsAt text names place name × (found ≡ (size name, name.meaning))

one_later : (text : List Piece) (first : Name) (names : List Name) (found : ℕ × Meaning) → OneOf text names found
    → OneOf text (first ∷ names) found
one_later text first names found (place, name, at, e) =
    (suc place, name, record { there = at.there; stands = at.stands }, e)

one_now : (text : List Piece) (best found : ℕ × Meaning) (first : Name) (names : List Name) (s t : Bool)
    → stands (parts first.text.now) text ≡ s → found ≡ of_two (s && t) (size first, first.meaning) best
    → (found ≡ best) ⊎ OneOf text (first ∷ names) found
one_now text best found first names true true h e = inr (0, first, record { there = refl; stands = h }, e)
one_now text best found first names true false h e = inl e
one_now text best found first names false t h e = inl e

one_of : (text : List Piece) (best : ℕ × Meaning) (names : List Name)
    → (longest text best names ≡ best) ⊎ OneOf text names (longest text best names)
one_of text best [] = inl refl
one_of text best (first ∷ names) =
    elim (one_of text (better text best first) names) [
      | inl e ↦ one_now text best (longest text (better text best first) names) first names
          (stands (parts first.text.now) text) (nat_lt best.0 (size first)) refl e
      | inr one ↦ inr (one_later text first names (longest text (better text best first) names) one)
    ]

pub found_stands : FoundStands
found_stands text names some =
    elim (one_of text (0, Nothing) names) [
      | inl e ↦ absurd (let none : (longest text (0, Nothing) names).0 ≡ 0 = ap (λ (x : ℕ × Meaning). x.0) e in
          omega arith)
      | inr one ↦ one
    ]
