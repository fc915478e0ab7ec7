-- The bytes of a place of a long count, as they are written.
use Rattle.std.specs.Prelude.{ℕ, List, [], ◌∷◌, ◌+◌, nat_lt, if◌then◌else◌}

-- a dot and a place under 20, with a blank where it has one digit, and how many bytes the two have
abbrev pub place_row : ℕ → List ℕ
place_row place =
    if nat_lt place 10 then 46 ∷ (48 + place) ∷ 32 ∷ 2 ∷ [] else 46 ∷ 49 ∷ (38 + place) ∷ 3 ∷ []
