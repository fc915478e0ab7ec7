-- The first place where a text has a part.
use Rattle.std.proofs.Common.{◌≡◌, ◌<◌, ◌+◌, ℕ, List, arith, drop, false, length, rules, take, true}
use Rattle.std.proofs.lemmas.List.{drop-drop, drop_more}
use Rattle.family_trees.specs.DateValues.{begins_with, has, place_of}

pub place_here : (part text : List ℕ) (i : ℕ) → i < length text → begins_with part (drop i text) ≡ true
    → place_of part text ≡ i + place_of part (drop i text) → place_of part text ≡ i
place_here part text i lt begins so_far = grind (arith, drop_more text i 0 lt)

-- it is behind this place
pub place_later : (part text : List ℕ) (i : ℕ) → i < length text → begins_with part (drop i text) ≡ false
    → place_of part text ≡ i + place_of part (drop i text)
    → place_of part text ≡ i + 1 + place_of part (drop (i + 1) text)
place_later part text i lt begins so_far = grind (arith, drop_more text i 0 lt)

pub found_here : (part text behind : List ℕ) (i : ℕ) → i < length text → begins_with part (drop i text) ≡ true
    → behind ≡ drop (length part) (drop i text) → place_of part text ≡ i + place_of part (drop i text)
    → (has part text ≡ true) × (take i text ≡ take (place_of part text) text)
    × (behind ≡ drop (place_of part text + length part) text)
found_here part text behind i lt begins is so_far =
    let here = place_here part text i lt begins so_far in
    rw (here, is) (search (rules, drop-drop))
