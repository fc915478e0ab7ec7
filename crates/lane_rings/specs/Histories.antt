-- What goes over the lanes of the machine.
use Rattle.std.specs.Prelude.{ℕ, List, [], ◌∷◌, ◌++◌, drop, length}
use Rattle.lane_rings.specs.Machine.{Actor, State, World, act}

-- what was added at the end of a lane
abbrev pub added : {X : Type 0} → List X → List X → List X
added old new = drop (length old) new

-- the entries that go over the entry lane of stripe i in a schedule, and the rows that go over its row lane, in order
abbrev pub entries_over : {E R : Type 0} → World E R → ℕ → List Actor → State E R → List E
entries_over w i [] s = []
entries_over w i (actor ∷ schedule) s =
    added (s.stripes i).entry_lane ((act w actor s).stripes i).entry_lane ++ entries_over w i schedule (act w actor s)

abbrev pub rows_over : {E R : Type 0} → World E R → ℕ → List Actor → State E R → List R
rows_over w i [] s = []
rows_over w i (actor ∷ schedule) s =
    added (s.stripes i).row_lane ((act w actor s).stripes i).row_lane ++ rows_over w i schedule (act w actor s)
