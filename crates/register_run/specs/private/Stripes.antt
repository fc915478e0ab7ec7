-- The stripes of a source: who feeds them, what was taken from them, and what they have passed on.
use Rattle.std.specs.Prelude.{◌≡◌, ◌⊎◌, ⊤, ℕ, List, [], ◌∷◌, ◌++◌, Bool, Err, Result, map, replicate, true}
use Rattle.std.specs.List.{AllZip, Contains}
use mathlib.Core.List.{IsPrefix}
use Rattle.lane_rings.specs.declared.item.Item.{Item}
use Rattle.lane_rings.specs.declared.item.Item.TheVariants as item
use Rattle.lane_rings.specs.declared.sender.Closed.{Closed}
use Rattle.lane_rings.specs.Lane.{HasConfirmation, all_sent, sender_lane, taken, waiting}
use Rattle.register_records.specs.declared.entries.Entry.{Entry}
use Rattle.register_records.specs.declared.rows.Row.{Row}
use Rattle.register_records.specs.declared.setups.Setup.{Setup}
use Rattle.register_records.specs.declared.ends.Cause.{Cause}
use Rattle.register_records.specs.declared.ends.Cause.TheVariants as cause
use Rattle.register_run.specs.Carried.{carried, rows_carried}
use Rattle.register_run.specs.private.JoinedThreads.{HasStarted}
use Rattle.register_run.specs.declared.stripes.Stripe.{Stripe}
use Rattle.register_run.specs.declared.stripes.StartFault.{StartFault}
use Rattle.register_run.specs.declared.stripes.StartFault.TheVariants as fault
use Rattle.register_run.specs.declared.reading.ReaderTask.{ReaderTask}
use Rattle.register_run.specs.Stripes.{feeding_lane, stripe_setup}

-- running out of memory is cause 1, and a thread that does not start is cause 2
abbrev pub start_fault_cause : StartFault → Cause
start_fault_cause fault.NoMemory = cause.NoMemory
start_fault_cause fault.NoThread = cause.NoThread

-- a reader with this task reads this source by this setup, and its senders feed these stripes, of which there are as
-- many as the setup has stripes, each started by it
abbrev pub IsReaderOf : {R : Type 0} → R → Setup → List Stripe → ReaderTask R → Type 0
IsReaderOf source setup stripes task =
    (task.source.value ≡ source) × (task.setup.value ≡ setup)
    × (map feeding_lane stripes ≡ map sender_lane task.senders.value.items)
    × (map stripe_setup stripes ≡ replicate setup.stripes setup)

-- the stripes of a source whose threads ended so: as many as the setup has stripes, each started by it; or none, where
-- the threads did not start
abbrev pub AreStaffed : Setup → Result ℕ Cause → List Stripe → Type 0
AreStaffed setup outcome stripes =
    ((map stripe_setup stripes ≡ replicate setup.stripes setup) × HasStarted outcome)
    ⊎ ((stripes ≡ []) × ((outcome ≡ Err cause.NoMemory) ⊎ (outcome ≡ Err cause.NoThread)))

-- the row was taken from this stripe, or was seen to be next
unfoldable pub StripeTook : Stripe → Row → Type 0
StripeTook stripe row = Contains (taken stripe.rows ++ waiting stripe.rows) (item.Entry row)

-- the row was taken from one of these stripes, or was seen to be next
abbrev pub AnyTook : List Stripe → Row → Type 0
AnyTook [] row = ⊥
AnyTook (stripe ∷ rest) row = StripeTook stripe row ⊎ AnyTook rest row

-- the stripe after a call: the same lane feeds it, it was started by the same setup, and what it took stays taken
pub record IsSameStripe (old new : Stripe) : Type 0 where
  pub lane : feeding_lane new ≡ feeding_lane old
  pub setup : stripe_setup new ≡ stripe_setup old
  pub kept : (row : Row) → StripeTook old row → StripeTook new row

-- these stripes after a call
pub record AreSameStripes (old new : List Stripe) : Type 0 where
  pub lanes : map feeding_lane new ≡ map feeding_lane old
  pub setups : map stripe_setup new ≡ map stripe_setup old
  pub kept : (row : Row) → AnyTook old row → AnyTook new row

-- the first of these items is a row
abbrev pub StartWithRow : List (Item Row) → Type 0
StartWithRow [] = ⊥
StartWithRow (item.Entry row ∷ items) = ⊤
StartWithRow (item.End n ∷ items) = ⊥
StartWithRow (item.Stop ∷ items) = ⊥

-- a look found a row, which was not taken yet
abbrev pub IsRowNext : Stripe → Type 0
IsRowNext stripe = StartWithRow (waiting stripe.rows)

-- both lanes of a stripe are confirmed, and this is what is left of the sender that fed it: the rows that were taken
-- are those of the first entries that were sent, in order, and of all of them where their lane ended with the number of
-- the rows that were taken; none waits
pub record HasPassedOn (ended : Bool) (stripe : Stripe) (closed : Closed Entry) : Type 0 where
  pub confirmed : HasConfirmation closed
  pub first : IsPrefix (rows_carried (taken stripe.rows)) (carried (all_sent closed))
  pub all : ended ≡ true → rows_carried (taken stripe.rows) ≡ carried (all_sent closed)
  pub none_waits : waiting stripe.rows ≡ []

-- the same of each of these stripes
abbrev pub HavePassedOn : Bool → List Stripe → List (Closed Entry) → Type 0
HavePassedOn ended stripes closed = AllZip (HasPassedOn ended) stripes closed
