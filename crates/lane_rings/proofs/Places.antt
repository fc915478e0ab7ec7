-- What private clauses say beside `specs/Places.antt`.
use Rattle.std.specs.Prelude.{◌≡◌, ⊤, ℕ, ◌+◌, List, [], ◌∷◌}
use Rattle.lane_rings.specs.Machine.{World}
use Rattle.lane_rings.specs.Places.{Numbers}

module _ {E R : Type 0} (numbers : Numbers E R) where
  -- these entries are numbered in order, the first with this number
  abbrev pub HaveNumbersFrom : ℕ → List E → Type 0
  HaveNumbersFrom k [] = ⊤
  HaveNumbersFrom k (entry ∷ entries) = (numbers.of_entry entry ≡ k) × HaveNumbersFrom (k + 1) entries

  -- the rows of these entries have their numbers
  abbrev pub KeepNumbers : World E R → List E → Type 0
  KeepNumbers w [] = ⊤
  KeepNumbers w (entry ∷ entries) = (numbers.of_row (w.row_of entry) ≡ numbers.of_entry entry) × KeepNumbers w entries
