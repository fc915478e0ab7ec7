-- The sources of a run, each with the output for it and the setup.
use Rattle.std.specs.Prelude.{List, [], ◌∷◌}
use Rattle.std.specs.declared.io.traits.Read as reads
use Rattle.register_records.specs.declared.outputs.Output as outputs
use Rattle.register_records.specs.TablesWritten.{made_by, made_for}
use Rattle.register_records.specs.declared.setups.Setup.{Setup}
use Rattle.register_records.specs.declared.ends.SourceEnd.{SourceEnd}
use Rattle.register_run.specs.declared.reports.Ran.{Ran}
use Rattle.register_run.specs.declared.ended_sources.EndedSource.{EndedSource}
use Rattle.register_run.specs.declared.running_sources.RunningSource.{RunningSource}

pub record Case (R W : Type 0) : Type 0 where
  pub source : R
  pub output : W
  pub setup : Setup

abbrev pub case : {R W : Type 0} → R → W → Setup → Case R W
case source output setup = record { source = source; output = output; setup = setup }

-- each source with the output of the same number
abbrev pub cases : {R W : Type 0} → Setup → List R → List W → List (Case R W)
cases setup [] outputs = []
cases setup (source ∷ sources) [] = []
cases setup (source ∷ sources) (output ∷ outputs) = case source output setup ∷ cases setup sources outputs

-- what a source that runs was started with
abbrev pub case_of : {R W : Type 0} {o : outputs.Ghosts W} → RunningSource R W o → Case R W
case_of s = case s.source.value (made_for s.table) (made_by s.table)

module _ {R W : Type 0} {r : reads.Ghosts R} {o : outputs.Ghosts W} where
  -- what a source that has ended was made of
  abbrev pub ended_case : EndedSource R W r o → Case R W
  ended_case s = case s.source.value (made_for s.table.value) s.ran.setup.value

  -- how its threads ran, its output and its end
  abbrev pub ran_of : EndedSource R W r o → Ran
  ran_of s = s.ran

  abbrev pub output_of : EndedSource R W r o → W
  output_of s = s.output

  abbrev pub end_of : EndedSource R W r o → SourceEnd
  end_of s = s.end
