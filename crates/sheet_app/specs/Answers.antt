-- What the program does: what its outputs have gained, and when its arguments are refused.
use Rattle.std.specs.Prelude.{◌≡◌, ◌≢◌, ◌⊎◌, ◌↔◌, ◌++◌, ◌∷◌, ℕ, All, Contains, List, [], true, map, Option}
use Rattle.std.specs.declared.io.traits.Read as reads
use Rattle.clap.specs.Words.{Text}
use Rattle.programs.specs.Meanings.{help, version, work}
use Rattle.programs.specs.OwnLines as lines
use Rattle.programs.specs.Pages.{IsPrinted}
use Rattle.programs.specs.Refusals as refusals
use Rattle.sheet_arguments.specs.Requests.{help_page, name, MeanJust, Task}
use Rattle.register_records.specs.declared.outputs.Output as outputs
use Rattle.sheets.specs.declared.name_lists.NameLine.{NameLine}
use Rattle.sheet_arguments.specs.declared.requests.TheConstants.{VERSION}
use Rattle.sheet_app.specs.CalendarWords.{SaysNothing, calendar_words}
use Rattle.sheet_app.specs.FileSheets.{AreApartOutputs}
use Rattle.sheet_app.specs.EndedSheets.{AreReported, Gives, IsConverted, IsEndedSheet, ended_name, is_complete}
use Rattle.sheet_app.specs.ProgramFaults.{IsFaultOfAsked, fault_line, fault_status}
use Rattle.sheet_app.specs.Sheets.{GainsList, IsList}
use Rattle.sheet_app.specs.declared.converting.EndedSheet.{EndedSheet}
use Rattle.sheet_app.specs.declared.converting.TheConstants.{INPUT}

-- the line on the version
abbrev pub version_line : List ℕ
version_line = lines.version_line name VERSION.now

-- the arguments ask for this page
abbrev pub AskForPage : List Text → List ℕ → Type 0
AskForPage arguments page =
    (MeanJust arguments help × (page ≡ help_page)) ⊎ (MeanJust arguments version × (page ≡ version_line))

-- standard error has gained the line on why nothing is done, with this status: what it names is of the arguments; of
-- arguments that are not taken, clap says more than the definitions
abbrev pub IsReported : List Text → ℕ → Option (List ℕ) → Option (List ℕ) → Type 0
IsReported arguments = refusals.IsReported fault_status fault_line (IsFaultOfAsked arguments)

module _ {R : Type 0} (r : reads.Ghosts R) (IsOpened : Text → R → Type 0) where
  -- these are the lines of the list of names in a file
  pub record IsListIn (file : Text) (lines : List NameLine) : Type 0 where
    pub source : R
    pub opened : IsOpened file source
    pub text : List ℕ
    pub gives : Gives r source text
    pub are_its : IsList text lines

  -- those of the lists in these files, in order
  abbrev pub AreListsIn : List Text → List NameLine → Type 0
  AreListsIn [] lines = lines ≡ []
  AreListsIn (file ∷ files) lines =
      (first : List NameLine) × (others : List NameLine) × IsListIn file first × AreListsIn files others
      × (lines ≡ first ++ others)

  -- dates are read by the names of these lines: those of the lists that a task names, and behind them the built-in ones
  pub record AreNamesOf (task : Task) (built : List ℕ) (lines : List NameLine) : Type 0 where
    pub own : List NameLine
    pub are_own : AreListsIn task.names own
    pub built_in : GainsList built own lines

  -- this is one of the words of a task that are to say calendars, and says none by its names
  pub record IsUnknown (task : Task) (built : List ℕ) (word : Text) : Type 0 where
    pub lines : List NameLine
    pub named : AreNamesOf task built lines
    pub among : Contains (calendar_words task.calendars) word
    pub unknown : SaysNothing lines word

  -- the arguments ask for a task with such a word
  abbrev pub NameUnknown : List Text → List ℕ → Type 0
  NameUnknown arguments built =
      (task : Task) × MeanJust arguments (work task) × (word : Text) × IsUnknown task built word

-- the sheet of standard input has ended, with its lines; the status is 0 exactly where it is complete
pub record IsInputConverted {R W E : Type 0} (r : reads.Ghosts R) (o : outputs.Ghosts W) (e : outputs.Ghosts E)
    (task : Task) (lines : List NameLine) (status : ℕ) (input : R) (given written : W) (before after : E) : Type 0 where
  pub ended : EndedSheet W
  pub named : ended_name ended ≡ INPUT.now
  pub output : ended.output ≡ written
  pub converted : IsConverted r o task lines input given written [] ended.registers.items ended.done
  pub complete : (status ≡ 0) ↔ (is_complete ended ≡ true)
  pub reported : AreReported e task (ended ∷ []) before after

-- the arguments ask for this page, which was printed; no file was opened
abbrev pub IsPageAnswered : {W E : Type 0} → outputs.Ghosts W → outputs.Ghosts E → List Text → ℕ → W → W
    → List (EndedSheet W) → E → E → Type 0
IsPageAnswered o e arguments status given written sheets before after =
    (page : List ℕ) × AskForPage arguments page × IsPrinted o e name page status given written before after × (sheets ≡ [])

-- the arguments ask for the sheet of standard input
pub record IsInputAnswered {R W E : Type 0} (r : reads.Ghosts R) (o : outputs.Ghosts W) (e : outputs.Ghosts E)
    (IsOpened : Text → R → Type 0) (arguments : List Text) (built : List ℕ) (status : ℕ) (input : R) (given written : W)
    (sheets : List (EndedSheet W)) (before after : E) : Type 0 where
  pub task : Task
  pub lines : List NameLine
  pub asked : MeanJust arguments (work task)
  pub no_files : task.files ≡ []
  pub named : AreNamesOf r IsOpened task built lines
  pub no_sheets : sheets ≡ []
  pub converted : IsInputConverted r o e task lines status input given written before after

-- the arguments ask for the sheets of files: no name of an output is that of an input or of another output, as far as
-- names were told apart; each sheet has ended, with its lines, and the status is 0 exactly where all are complete; standard
-- output is as it was
pub record AreFilesAnswered {R W E : Type 0} (r : reads.Ghosts R) (o : outputs.Ghosts W) (e : outputs.Ghosts E)
    (IsOpened : Text → R → Type 0) (IsMade : Text → ℕ → W → Type 0) (IsNamed : Text → Type 0)
    (AreApart : Text → Text → Type 0) (arguments : List Text) (built : List ℕ) (status : ℕ) (given written : W)
    (sheets : List (EndedSheet W)) (before after : E) : Type 0 where
  pub task : Task
  pub lines : List NameLine
  pub asked : MeanJust arguments (work task)
  pub some_files : task.files ≢ []
  pub named : AreNamesOf r IsOpened task built lines
  pub untouched : written ≡ given
  pub outputs : AreApartOutputs AreApart task
  pub of_files : map ended_name sheets ≡ task.files
  pub ended : All (IsEndedSheet r o IsOpened IsMade IsNamed task lines) sheets
  pub complete : (status ≡ 0) ↔ All (λ sheet. is_complete sheet ≡ true) sheets
  pub reported : AreReported e task sheets before after
