-- What a run promises of the threads of a source, however the source ended.
use Rattle.std.specs.Prelude.{◌≡◌, ◌≢◌, ◌⊎◌, ℕ, List, [], All, length}
use Rattle.std.specs.List.{AllZip}
use Rattle.lane_rings.specs.Lane.{lane_capacity, receiver_lane}
use Rattle.register_records.specs.Sources.{IfBroken}
use Rattle.register_records.specs.declared.setups.Setup.{Setup}
use Rattle.register_records.specs.declared.ends.Cause.TheVariants as cause
use Rattle.register_records.specs.declared.ends.SourceEnd.{SourceEnd}
use Rattle.register_records.specs.declared.ends.SourceEnd.TheVariants as ended
use Rattle.register_run.specs.Stripes.{feeding_lane}
use Rattle.register_run.specs.MetCauses.{IsLowest, IsMet}
use Rattle.register_run.specs.declared.stripes.Stripe.{Stripe}
use Rattle.register_run.specs.declared.reports.Ran.{Ran}

-- both lanes of a stripe, that of its entries and that of its rows, hold as many items as a ring of this size
abbrev pub HasRing : ℕ → Stripe → Type 0
HasRing ring stripe = (lane_capacity (feeding_lane stripe) ≡ ring) × (lane_capacity (receiver_lane stripe.rows) ≡ ring)

-- the threads of a source that ended so: as many stripes as the setup has, with lanes of its ring. There is none only
-- where threads did not start, which is cause 1 or 2; and with cause 2 there is none. A source that is broken reports
-- the lowest of the causes that its threads and its table met
pub record AreThreadsOf (setup : Setup) (end : SourceEnd) (ran : Ran) : Type 0 where
  pub stripes : ran.stripes.value.items ≢ [] → length ran.stripes.value.items ≡ setup.stripes
  pub rings : All (HasRing setup.ring) ran.stripes.value.items
  pub none : ran.stripes.value.items ≡ [] → (end ≡ ended.Broken cause.NoMemory) ⊎ (end ≡ ended.Broken cause.NoThread)
  pub unstarted : end ≡ ended.Broken cause.NoThread → ran.stripes.value.items ≡ []
  pub lowest : IfBroken end (IsLowest (IsMet ran.findings.value))

-- the same of the threads of each source
abbrev pub AreThreads : Setup → List SourceEnd → List Ran → Type 0
AreThreads setup ends ran = AllZip (λ end one. ∥ AreThreadsOf setup end one ∥₁) ends ran
