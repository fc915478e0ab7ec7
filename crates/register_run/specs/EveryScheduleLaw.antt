-- The law of every schedule: what holds of the machine's state after any schedule.
use Rattle.std.specs.Prelude.{◌≡◌, ◌*◌, ℕ, ◌≤◌, List, Option, length}
use Rattle.std.specs.List.{AllZip}
use Rattle.lane_rings.specs.Machine.{Actor, start}
use Rattle.lane_rings.specs.Places as places
use Rattle.lane_rings.specs.Places.{table_rows}
use Rattle.lane_rings.specs.Schedules.{HasRounds, run}
use Rattle.date_texts.specs.declared.target.Target.{Target}
use Rattle.register_records.specs.Entries.{HasFirstEntries, Reading}
use Rattle.register_records.specs.Outcomes.{IsRowOf}
use Rattle.register_run.specs.Worlds.{State, World, numbers}

-- each entry that is pushed stands at one of the places that it passes, and at no other
abbrev pub EachStandsOnce : World → State → Type 0
EachStandsOnce w s = places.EachStandsOnce numbers w s

-- unless all rows are popped, the act of the actor that has to move the entry of the next row changes something
abbrev pub GoesOn : World → State → Type 0
GoesOn w s = places.GoesOn numbers w s

-- a world of a text, which may be unknown: its entries, or the first of them, and the row of each of them; there is a
-- converter at least, and a lane holds an item at least
pub record IsWorldOf (reading : Reading) (targets : List Target) (text : Option (List ℕ)) (w : World) : Type 0 where
  pub entries : HasFirstEntries reading text w.entries
  pub rows : AllZip (IsRowOf targets) w.entries (table_rows w)
  pub some_converters : 1 ≤ w.converters
  pub some_room : 1 ≤ w.ring

-- after 4 n rounds, where there are n entries, all rows are popped
abbrev pub Ends : World → List Actor → State → Type 0
Ends w schedule s = HasRounds w (4 * length w.entries) schedule → s.popped ≡ table_rows w

-- what holds after every schedule, in every world of every text: of the world, the schedule and the state after it
abbrev pub AfterEverySchedule : (World → List Actor → State → Type 0) → Type 0
AfterEverySchedule Holds =
    (reading : Reading) (targets : List Target) (text : Option (List ℕ)) (w : World) (schedule : List Actor)
    → IsWorldOf reading targets text w → Holds w schedule (run w schedule start)
