-- One part of a text more.
use Rattle.std.proofs.Common.{◌≡◌, ◌<◌, ◌∙◌, ◌++◌, ℕ, zero, suc, List, [], ◌∷◌, None, Some, ap, ap₂, arith, codes, drop}
use Rattle.std.proofs.Common.{get_or, length, option_to_list, refl, rules, sym, take}
use Rattle.std.specs.List.{flat_map}
use Rattle.std.proofs.lemmas.List.{append-nil}
use Rattle.std.proofs.lemmas.List.Concat.{flat_map-append}
use Rattle.family_trees.specs.Lines.{TreeLine, line_in, line_of, unindented}
use Rattle.family_trees.specs.OwnDates.{begins_with_head}
use Rattle.family_trees.specs.Trees.{is_wanted}

pub one_part_more : (lines : List TreeLine) (parts : List (List ℕ)) (part : List ℕ) → lines ≡ flat_map line_in parts
    → lines ++ option_to_list (line_of (unindented part)) ≡ flat_map line_in (parts ++ part ∷ [])
one_part_more lines parts part all =
    rw (all, flat_map-append line_in parts (part ∷ [])) (search (rules, append-nil))

cut_at : {X : Type 0} (xs : List X) (i : ℕ) (d : X) → i < length xs → xs ≡ take i xs ++ get_or xs i d ∷ drop (suc i) xs
cut_at [] i d lt = absurd (omega arith)
cut_at (x ∷ xs) zero d lt = refl
cut_at (x ∷ xs) (suc i) d lt = ap (λ (ys : List _). x ∷ ys) (cut_at xs i d (omega arith))

-- the part at place i of all, before which none is a line, is the first line
pub first_line : (parts before : List (List ℕ)) (i : ℕ) (part : List ℕ) (line : TreeLine)
    → (i < length parts) × (part ≡ get_or parts i part) → before ≡ take i parts → flat_map line_in before ≡ []
    → line_of (unindented part) ≡ Some line
    → is_wanted 0 (codes "HEAD") line ≡ begins_with_head (flat_map line_in parts)
first_line parts before i part line place front none is =
    let cut : parts ≡ before ++ part ∷ drop (suc i) parts
    = cut_at parts i part place.0
    ∙ ap₂ (λ (xs : List (List ℕ)) (x : List ℕ). xs ++ x ∷ drop (suc i) parts) (sym front) (sym place.1) in
    rw (cut, flat_map-append line_in before (part ∷ drop (suc i) parts), none, is) refl

-- one part more that is none
pub no_line_more : (parts : List (List ℕ)) (part : List ℕ) → flat_map line_in parts ≡ []
    → line_of (unindented part) ≡ None → flat_map line_in (parts ++ part ∷ []) ≡ []
no_line_more parts part none is = rw (flat_map-append line_in parts (part ∷ []), none, is) refl
