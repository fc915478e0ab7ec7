-- What the program does: what its outputs have gained, and when its arguments are refused.
use Rattle.std.specs.Prelude.{◌≡◌, ◌≢◌, ◌⊎◌, ◌↔◌, ℕ, List, [], ◌∷◌, Bool, Option}
use Rattle.std.specs.Prelude.{false, if◌then◌else◌}
use Rattle.std.specs.Io.KnownBytes.{Appends}
use Rattle.std.specs.declared.io.traits.Read as reads
use Rattle.register_run.specs.Histories.{AreOfMachine}
use Rattle.register_run.specs.Reports.{IsReport, stripes_of}
use Rattle.register_run.specs.Threads.{AreThreads}
use Rattle.register_run.specs.declared.reports.Ran.{Ran}
use Rattle.register_run.specs.declared.reports.Report.{Report}
use Rattle.register_records.specs.declared.outputs.Output as outputs
use Rattle.register_records.specs.declared.setups.Setup.{Setup}
use Rattle.register_run.specs.declared.reports.Verdict.TheVariants.{Complete}
use Rattle.programs.specs.Openings.{AreMade, AreNotSources, AreOpened, AreTwoFiles, output_names}
use Rattle.register_app.specs.Namings.{AreNamed}
use Rattle.register_app.specs.ProgramFaults.{IsFaultOfAsked, fault_line, fault_status}
use Rattle.register_app.specs.Reports.{lines_from}
use Rattle.programs.specs.Meanings.{help, version, work}
use Rattle.programs.specs.OwnLines as lines
use Rattle.programs.specs.Pages.{IsPrinted}
use Rattle.programs.specs.Refusals as refusals
use Rattle.register_arguments.specs.Requests.{help_page, name}
use Rattle.register_arguments.specs.Requests.{IsSetupOf, MeanJust, Task}
use Rattle.register_arguments.specs.declared.requests.TheConstants.{VERSION}

-- the line on the version
abbrev pub version_line : List ℕ
version_line = lines.version_line name VERSION.now

-- the arguments ask for this page
abbrev pub AskForPage : List (List ℕ) → List ℕ → Type 0
AskForPage arguments page =
    (MeanJust arguments help × (page ≡ help_page)) ⊎ (MeanJust arguments version × (page ≡ version_line))

-- tables were made: the threads of each source, which ran as is handed on, were started by the task's setup, with its
-- ring and its stripes, those that are written, or else those that fit a machine of some number of processors, which the
-- system says; each source has ended as it should, the status is 0 exactly where all are whole, and standard error has
-- gained the lines on them, unless it failed, and nothing where there are none
pub record IsConverted {R W E : Type 0} (r : reads.Ghosts R) (o : outputs.Ghosts W) (e : outputs.Ghosts E)
    (task : Task) (status : ℕ) (sources : List R) (given written : List W) (ran : List Ran) (before after : E) : Type 0
  where
    pub processors : ℕ
    pub setup : Setup
    pub asked : IsSetupOf task processors setup
    pub report : Report W
    pub reports : IsReport r o setup sources given report
    pub machine : AreOfMachine r o setup sources given report.outputs.items report.ends.items (stripes_of report)
    pub threads : AreThreads setup report.ends.items report.ran.items
    pub outputs : written ≡ report.outputs.items
    pub ran_so : ran ≡ report.ran.items
    pub complete : (status ≡ 0) ↔ (report.verdict ≡ Complete)
    pub lines : e.has_failed after ≡ false
        → Appends (e.contents before) (e.contents after) (lines_from task.summary 1 report.ends.items)
    pub quiet : status ≡ 0 → task.summary ≡ false → after ≡ before

-- sources were opened by the names of a task and outputs made by them, none of which has a name of a source or of another
-- output, as far as names were told apart; then the sources were converted, and the tables got their names; the status is
-- that of the conversion, unless one did not
pub record AreConverted {R W E : Type 0} (r : reads.Ghosts R) (o : outputs.Ghosts W) (e : outputs.Ghosts E)
    (IsOpened : List ℕ → R → Type 0) (IsMade : List ℕ → ℕ → W → Type 0) (IsNamed : List ℕ → Type 0)
    (AreApart : List ℕ → List ℕ → Type 0) (task : Task) (status : ℕ) (written : List W) (ran : List Ran)
    (before after : E) : Type 0 where
  pub sources : List R
  pub given : List W
  pub opened : AreOpened IsOpened task.files sources
  pub made : AreMade IsMade task.files given
  pub kept : AreNotSources AreApart task.files
  pub apart : AreTwoFiles AreApart task.files
  pub ended : ℕ
  pub reported : E
  pub converted : IsConverted r o e task ended sources given written ran before reported
  pub all : Bool
  pub named : AreNamed e IsNamed (output_names task.files) all reported after
  pub status_of : status ≡ (if all then ended else 1)

-- the arguments ask for a page, which was printed; no output was made
abbrev pub IsPageAnswered : {W E : Type 0} → outputs.Ghosts W → outputs.Ghosts E → List (List ℕ) → ℕ → W → W → List W
    → E → E → Type 0
IsPageAnswered o e arguments status given written outputs before after =
    (page : List ℕ) × AskForPage arguments page × IsPrinted o e name page status given written before after × (outputs ≡ [])

-- the arguments ask for the table of standard input; no output was made
abbrev pub IsInputAnswered : {R W E : Type 0} → reads.Ghosts R → outputs.Ghosts W → outputs.Ghosts E → List (List ℕ) → ℕ
    → R → W → W → List W → List Ran → E → E → Type 0
IsInputAnswered r o e arguments status input given written outputs ran before after =
    (task : Task) × MeanJust arguments (work task) × (task.files ≡ []) × (outputs ≡ [])
    × IsConverted r o e task status (input ∷ []) (given ∷ []) (written ∷ []) ran before after

-- the arguments ask for the tables of files; standard output is as it was
abbrev pub AreFilesAnswered : {R W E : Type 0} → reads.Ghosts R → outputs.Ghosts W → outputs.Ghosts E
    → (List ℕ → R → Type 0) → (List ℕ → ℕ → W → Type 0) → (List ℕ → Type 0) → (List ℕ → List ℕ → Type 0)
    → List (List ℕ) → ℕ → W → W → List W → List Ran → E → E → Type 0
AreFilesAnswered r o e IsOpened IsMade IsNamed AreApart arguments status given written outputs ran before after =
    (task : Task) × MeanJust arguments (work task) × (task.files ≢ []) × (written ≡ given)
    × AreConverted r o e IsOpened IsMade IsNamed AreApart task status outputs ran before after

-- standard error has gained the line on why nothing is done, with this status: something is wrong with the arguments,
-- or memory ran out, or a file was missing; of arguments that are not taken, clap says more than the definitions
abbrev pub IsReported : List (List ℕ) → ℕ → Option (List ℕ) → Option (List ℕ) → Type 0
IsReported arguments = refusals.IsReported fault_status fault_line (IsFaultOfAsked arguments)
