-- That the lanes of a source carried what goes over the lanes of the machine of striped lanes.
use Rattle.std.specs.Prelude.{◌≡◌, ◌+◌, ⊤, ℕ, List, [], ◌∷◌, Option, length, map, replicate}
use Rattle.lane_rings.specs.declared.sender.Closed.{Closed}
use Rattle.lane_rings.specs.Lane.{HasConfirmation, all_sent, taken}
use Rattle.std.specs.declared.io.traits.Read as reads
use Rattle.register_records.specs.Entries.{AreNumberedFrom, HasEntries, Numbered}
use Rattle.register_records.specs.Outcomes.{TableRow}
use Rattle.register_records.specs.Sources.{Gains, IfWhole, IsTableOf}
use Rattle.register_records.specs.Views.{layout_of, reading_of}
use Rattle.register_records.specs.declared.outputs.Output as outputs
use Rattle.register_records.specs.declared.entries.Entry.{Entry}
use Rattle.register_records.specs.declared.setups.Setup.{Setup}
use Rattle.register_records.specs.declared.ends.SourceEnd.{SourceEnd}
use Rattle.register_run.specs.Stripes.{feeding_lane, stripe_setup}
use Rattle.register_run.specs.Carried.{carried, rows_carried}
use Rattle.register_run.specs.JoinedThreads.{AreOfLanes}
use Rattle.register_run.specs.Worlds.{World}
use Rattle.lane_rings.specs.Histories.{entries_over, rows_over}
use Rattle.lane_rings.specs.Machine.{Actor, start}
use Rattle.lane_rings.specs.Places.{table_rows}
use Rattle.lane_rings.specs.Schedules.{run}
use Rattle.register_run.specs.declared.stripes.Stripe.{Stripe}

-- these stripes, the first of which is stripe i, have the histories of the machine's lanes in a schedule: their lanes
-- of entries, of which this is left, carried its entries, and the rows that were taken from them are of the entries of
-- its rows
abbrev pub HaveHistories : World → List Actor → ℕ → List Stripe → List (Closed Entry) → Type 0
HaveHistories w schedule i [] [] = ⊤
HaveHistories w schedule i [] (c ∷ closed) = ⊥
HaveHistories w schedule i (stripe ∷ stripes) [] = ⊥
HaveHistories w schedule i (stripe ∷ stripes) (c ∷ closed) =
    HasConfirmation c × (carried (all_sent c) ≡ entries_over w i schedule start)
    × (map w.row_of (rows_carried (taken stripe.rows)) ≡ rows_over w i schedule start)
    × HaveHistories w schedule (i + 1) stripes closed

-- in some schedule of the machine the lanes of these stripes carried just what they did: its entries are the so many of
-- the text, there are as many stripes as the setup has, with lanes of its ring, and all rows are popped
pub record IsOfMachine (text : Option (List ℕ)) (setup : Setup) (count : ℕ) (stripes : List Stripe) : Type 0 where
  pub given : List Numbered
  pub closed : List (Closed Entry)
  pub counted : length given ≡ count
  pub numbered : AreNumberedFrom 1 given
  pub entries : HasEntries (reading_of setup) text given
  pub staffed : map stripe_setup stripes ≡ replicate setup.stripes setup
  pub lanes : AreOfLanes (map feeding_lane stripes) closed
  pub schedule : (w : World) → w.entries ≡ given → w.converters ≡ setup.stripes → w.ring ≡ setup.ring
      → (schedule : List Actor) × ((run w schedule start).popped ≡ table_rows w)
      × HaveHistories w schedule 0 stripes closed

-- the machine, and the output has gained the table of its entries
abbrev pub IsMachineWithTable : Option (List ℕ) → Setup → Option (List ℕ) → Option (List ℕ) → ℕ → List Stripe → Type 0
IsMachineWithTable text setup old new count stripes =
    (machine : IsOfMachine text setup count stripes) × (rows : List TableRow)
    × Gains old new (IsTableOf (layout_of setup) machine.given rows)

-- there are stripes for each source, and where it is whole, they are of the machine, with its table
abbrev pub AreOfMachine : {R W : Type 0} → reads.Ghosts R → outputs.Ghosts W → Setup → List R → List W → List W
    → List SourceEnd → List (List Stripe) → Type 0
AreOfMachine r o setup [] [] [] [] [] = ⊤
AreOfMachine r o setup (source ∷ sources) (before ∷ given) (after ∷ written) (end ∷ ends) (stripes ∷ rest) =
    ∥ IfWhole end (λ count refused journal.
    IsMachineWithTable (r.remaining source) setup (o.contents before) (o.contents after) count stripes) ∥₁
    × AreOfMachine r o setup sources given written ends rest
AreOfMachine r o setup sources given written ends all = ⊥
