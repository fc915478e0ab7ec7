-- Where entries stand, and who has to move them.
use Rattle.std.specs.Prelude.{◌≡◌, ◌≢◌, ℕ, ◌+◌, ◌-◌, ◌<◌, ◌≤◌, ◌==◌, List, [], ◌∷◌, length, map, take}
use Rattle.std.specs.Prelude.{option_to_list, count_by, Contains}
use Rattle.lane_rings.specs.Machine.{World, State, Actor, Reader, Converter, Writer, turn}
use Rattle.lane_rings.specs.Schedules.{Changes}

-- the numbers of entries and of rows, by which they are told apart
pub record Numbers (E R : Type 0) : Type 0 where
  pub of_entry : E → ℕ
  pub of_row : R → ℕ

-- where an entry may stand once it is pushed: by itself in the entry lane or the converter of a stripe, and as its row
-- in the row lane of a stripe or among the rows that are popped
pub data Place : Type 0 where
  EntryLane : ℕ → Place
  InConverter : ℕ → Place
  RowLane : ℕ → Place
  Popped : Place

module _ {E R : Type 0} where
  -- the rows of the table: that of each entry, in order
  abbrev pub table_rows : World E R → List R
  table_rows w = map w.row_of w.entries

  -- the rows that are popped are the first rows of the table, in order
  abbrev pub ArePoppedInOrder : World E R → State E R → Type 0
  ArePoppedInOrder w s = s.popped ≡ take (length s.popped) (table_rows w)

  -- the stripe that entry k goes through
  abbrev pub stripe_of : World E R → ℕ → ℕ
  stripe_of w k = turn w (k - 1)

  -- the places that entry k passes, in order
  abbrev pub way_of : World E R → ℕ → List Place
  way_of w k = EntryLane (stripe_of w k) ∷ InConverter (stripe_of w k) ∷ RowLane (stripe_of w k) ∷ Popped ∷ []

-- by these numbers
module _ {E R : Type 0} (numbers : Numbers E R) where
  -- the numbers of what stands at a place
  abbrev pub numbers_at : State E R → Place → List ℕ
  numbers_at s (EntryLane i) = map numbers.of_entry (s.stripes i).entry_lane
  numbers_at s (InConverter i) = map numbers.of_entry (option_to_list (s.stripes i).hand)
  numbers_at s (RowLane i) = map numbers.of_row (s.stripes i).row_lane
  numbers_at s Popped = map numbers.of_row s.popped

  -- how often a number stands at a place
  abbrev pub times_at : State E R → ℕ → Place → ℕ
  times_at s k place = count_by (λ number. number == k) (numbers_at s place)

  -- entry k stands at this place, once, and at no other
  pub record StandsOnlyAt (s : State E R) (k : ℕ) (place : Place) : Type 0 where
    pub once : times_at s k place ≡ 1
    pub nowhere_else : (other : Place) → other ≢ place → times_at s k other ≡ 0

  -- each entry that is pushed stands at one of the places that it passes, and at no other
  abbrev pub EachStandsOnce : World E R → State E R → Type 0
  EachStandsOnce w s =
      (k : ℕ) → 1 ≤ k → k ≤ s.pushed → (place : Place) × Contains (way_of w k) place × StandsOnlyAt s k place

  -- the actor that has to move entry k next: the reader where it is not yet pushed, its converter where it stands in
  -- the entry lane or in the converter, the writer where its row stands in the row lane
  pub data HasToMove (w : World E R) (s : State E R) (k : ℕ) : Actor → Type 0 where
    not_pushed : s.pushed < k → HasToMove w s k Reader
    in_entry_lane : StandsOnlyAt s k (EntryLane (stripe_of w k)) → HasToMove w s k (Converter (stripe_of w k))
    in_converter : StandsOnlyAt s k (InConverter (stripe_of w k)) → HasToMove w s k (Converter (stripe_of w k))
    in_row_lane : StandsOnlyAt s k (RowLane (stripe_of w k)) → HasToMove w s k Writer

  -- unless all rows are popped, the act of the actor that has to move the entry of the next row changes something:
  -- where p rows are popped, entry p + 1
  abbrev pub GoesOn : World E R → State E R → Type 0
  GoesOn w s =
      length s.popped < length w.entries
      → (actor : Actor) × HasToMove w s (length s.popped + 1) actor × Changes w actor s
