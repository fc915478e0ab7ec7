-- What a run returns.
use Rattle.std.specs.Prelude.{◌≡◌, ◌≢◌, ◌≤◌, ◌<◌, ◌↔◌, ℕ, List, All, IsErrAnd, Result, Vec, map, true, vec_len}
use Rattle.std.specs.declared.alloc.Global.{Global}
use Rattle.std.specs.declared.io.traits.Read as reads
use Rattle.register_records.specs.Sources.{is_whole_end}
use Rattle.register_records.specs.Views.{layout_of, reading_of}
use Rattle.register_records.specs.declared.outputs.Output as outputs
use Rattle.register_records.specs.declared.setups.Setup.{Setup}
use Rattle.register_records.specs.declared.ends.Cause.TheVariants as cause
use Rattle.register_records.specs.declared.ends.SourceEnd.TheVariants as ended
use Rattle.register_run.specs.declared.stripes.Stripe.{Stripe}
use Rattle.register_run.specs.declared.reports.Report.{Report}
use Rattle.register_run.specs.declared.reports.RunFault.{RunFault}
use Rattle.register_run.specs.declared.reports.RunFaultKind.{RunFaultKind}
use Rattle.register_run.specs.declared.reports.RunFaultKind.TheVariants.{NoMemory, OutputCount, TooManySources}
use Rattle.register_run.specs.declared.reports.Verdict.TheVariants.{Complete}
use Rattle.register_run.specs.Headline.{AtEachPlace, IsSourceEnd}
use Rattle.register_run.specs.Histories.{AreOfMachine}
use Rattle.register_run.specs.Threads.{AreThreads}

-- the number of a fault
abbrev pub run_fault_number : RunFaultKind → ℕ
run_fault_number TooManySources = 1
run_fault_number OutputCount = 2
run_fault_number NoMemory = 3

-- the stripes of each source, as they were joined
abbrev pub stripes_of : {W : Type 0} → Report W → List (List Stripe)
stripes_of report = map (λ ran. ran.stripes.value.items) report.ran.items

-- each source was run by this setup and has ended as it should, and with no header it has its output as it was; and
-- the report says how
pub record IsReport {R W : Type 0} (r : reads.Ghosts R) (o : outputs.Ghosts W) (setup : Setup)
    (sources : List R) (given : List W) (report : Report W) : Type 0 where
  pub places : AtEachPlace (λ source before after end. (end ≡ ended.Broken cause.BadHeader → after ≡ before)
      × ∥ IsSourceEnd o (reading_of setup) (layout_of setup) (r.remaining source) before after end ∥₁)
      sources given report.outputs.items report.ends.items
  pub marks : map o.own_mark report.outputs.items ≡ map o.own_mark given
  pub by_setup : map (λ ran. ran.setup.value) report.ran.items ≡ map (λ source. setup) sources
  pub verdict : (report.verdict ≡ Complete) ↔ All (λ end. is_whole_end end ≡ true) report.ends.items

-- the lanes of each source that is whole carried what those of the machine of striped lanes carry in some schedule with
-- the entries of its text, and its table is that of these entries
abbrev pub IsReportOfMachine : {R W : Type 0} → reads.Ghosts R → outputs.Ghosts W → Setup → List R → List W → Report W
    → Type 0
IsReportOfMachine r o setup sources given report =
    AreOfMachine r o setup sources given report.outputs.items report.ends.items (stripes_of report)

-- the threads of each source were those of the setup, whatever its end
abbrev pub IsReportOfThreads : {W : Type 0} → Setup → Report W → Type 0
IsReportOfThreads setup report = AreThreads setup report.ends.items report.ran.items

module _ {R W : Type 0} where
  -- the fault hands these back
  abbrev pub HandsBack : Vec R Global → Vec W Global → RunFault R W → Type 0
  HandsBack sources outputs fault = (fault.sources ≡ sources) × (fault.outputs ≡ outputs)

  -- the run did not begin, with a fault of this kind
  abbrev pub IsRefusedAs : RunFaultKind → Result (Report W) (RunFault R W) → Type 0
  IsRefusedAs kind result = IsErrAnd result (λ fault. fault.kind ≡ kind)

  -- it does so exactly for more than 32 sources
  abbrev pub RefusesSources : Vec R Global → Result (Report W) (RunFault R W) → Type 0
  RefusesSources sources result = IsRefusedAs TooManySources result ↔ (32 < vec_len sources)

  -- and exactly for at most 32 sources and another number of outputs
  abbrev pub RefusesOutputs : Vec R Global → Vec W Global → Result (Report W) (RunFault R W) → Type 0
  RefusesOutputs sources outputs result =
      IsRefusedAs OutputCount result ↔ ((vec_len sources ≤ 32) × (vec_len outputs ≢ vec_len sources))
