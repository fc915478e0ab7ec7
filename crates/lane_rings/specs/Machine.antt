-- The machine of striped lanes: a reader, a writer, and converters between them with two lanes each. It is a model that
-- stands by itself: entries may be anything, E, and so may rows, R.
use Rattle.std.specs.Prelude.{ℕ, ◌+◌, ◌%◌, ◌==◌, if◌then◌else◌, nat_lt, Bool, List, [], ◌∷◌, ◌++◌, length}
use Rattle.std.specs.Prelude.{Option, Some, None, slice_get}

-- what is given: the entries, the row of each, how many converters there are, and how many items a lane holds
pub record World (E R : Type 0) : Type 0 where
  pub entries : List E
  pub row_of : E → R
  pub converters : ℕ
  pub ring : ℕ

-- a stripe, a converter and its two lanes: the entries that wait for it, the entry that it holds, and the rows that
-- wait for the writer
pub record Stripe (E R : Type 0) : Type 0 where
  pub entry_lane : List E
  pub hand : Option E
  pub row_lane : List R

-- how many entries are pushed, the stripe with each number from 0 on, and the rows that are popped, in order
pub record State (E R : Type 0) : Type 0 where
  pub pushed : ℕ
  pub stripes : ℕ → Stripe E R
  pub popped : List R

-- who may act. A converter whose number is not below the number of converters never finds anything in its lanes, so
-- there are two actors more than converters
pub data Actor : Type 0 where
  Reader : Actor
  Converter : ℕ → Actor
  Writer : Actor

-- the same values but at one number
abbrev pub put : {X : Type 0} → (ℕ → X) → ℕ → X → ℕ → X
put old i x = λ j. if j == i then x else old j

module _ {E R : Type 0} where
  -- at the start nothing is pushed, and every lane and every hand is empty
  abbrev pub start : State E R
  start = record { pushed = 0; stripes = λ _. record { entry_lane = []; hand = None; row_lane = [] }; popped = [] }

  -- the stripes take turns, from stripe 0 on: the one whose turn it is after k items
  abbrev pub turn : World E R → ℕ → ℕ
  turn w k = k % w.converters

  -- a lane holds no more than the ring's size
  abbrev pub has_room : {X : Type 0} → World E R → List X → Bool
  has_room w lane = nat_lt (length lane) w.ring

  abbrev pub with_stripe : State E R → ℕ → Stripe E R → State E R
  with_stripe s i stripe = record s { stripes = put s.stripes i stripe }

  -- the reader pushes an entry, if there is one left, on the entry lane of stripe i, if it has room
  abbrev pub push_entry : World E R → State E R → ℕ → Option E → State E R
  push_entry w s i None = s
  push_entry w s i (Some entry) =
      if has_room w (s.stripes i).entry_lane
      then record (with_stripe s i (record (s.stripes i) { entry_lane = (s.stripes i).entry_lane ++ entry ∷ [] })) {
        pushed = s.pushed + 1;
      }
      else s

  -- converter i pops its entry lane, if there is something in it
  abbrev pub pop_entry : State E R → ℕ → List E → State E R
  pop_entry s i [] = s
  pop_entry s i (entry ∷ lane) = with_stripe s i (record (s.stripes i) { entry_lane = lane; hand = Some entry })

  -- converter i pushes an entry's row on its row lane, if that has room
  abbrev pub push_row : World E R → State E R → ℕ → E → State E R
  push_row w s i entry =
      if has_room w (s.stripes i).row_lane
      then with_stripe s i (record (s.stripes i) {
        hand = None;
        row_lane = (s.stripes i).row_lane ++ w.row_of entry ∷ [];
      })
      else s

  -- a converter with an empty hand pops an entry, and one that has an entry in its hand pushes that entry's row
  abbrev pub convert : World E R → State E R → ℕ → Option E → State E R
  convert w s i None = pop_entry s i (s.stripes i).entry_lane
  convert w s i (Some entry) = push_row w s i entry

  -- the writer pops the row lane of stripe i, if there is something in it
  abbrev pub pop_row : State E R → ℕ → List R → State E R
  pop_row s i [] = s
  pop_row s i (row ∷ lane) =
      record (with_stripe s i (record (s.stripes i) { row_lane = lane })) { popped = s.popped ++ row ∷ [] }

  -- the state after an act; one that finds its lane full or empty, or no entry left, changes nothing
  abbrev pub act : World E R → Actor → State E R → State E R
  act w Reader s = push_entry w s (turn w s.pushed) (slice_get w.entries s.pushed)
  act w (Converter i) s = convert w s i (s.stripes i).hand
  act w Writer s = pop_row s (turn w (length s.popped)) (s.stripes (turn w (length s.popped))).row_lane
