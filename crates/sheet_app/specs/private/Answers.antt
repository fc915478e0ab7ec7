-- Why a task is not begun, and what comes of one.
use Rattle.std.specs.Prelude.{◌≡◌, ◌≤◌, ◌⊎◌, ℕ, All, List, [], false, map}
use Rattle.std.specs.declared.io.traits.Read as reads
use Rattle.clap.specs.Words.{Text}
use Rattle.programs.specs.Meanings.{work}
use Rattle.register_records.specs.declared.outputs.Output as outputs
use Rattle.sheets.specs.declared.name_lists.NameLine.{NameLine}
use Rattle.sheet_arguments.specs.Requests.{MeanJust, Task}
use Rattle.sheet_app.specs.Answers.{AreFilesAnswered, AreNamesOf, IsInputAnswered, IsInputConverted, IsReported}
use Rattle.sheet_app.specs.Answers.{IsUnknown}
use Rattle.sheet_app.specs.FileSheets.{AreApartOutputs, register_endings}
use Rattle.sheet_app.specs.private.FileSheets.{IsNewSheet, sheet_name}
use Rattle.sheet_app.specs.ProgramFaults.{IsFaultOfAsked, IsFaultOfTask, fault_status}
use Rattle.sheet_app.specs.declared.prepared.Prepared.{Prepared}
use Rattle.sheet_app.specs.declared.program.Outcome.{Outcome}
use Rattle.sheet_app.specs.declared.program_faults.ProgramFault.{ProgramFault}
use Rattle.sheet_app.specs.declared.program_faults.ProgramFault.TheVariants as program_fault

module _ {R : Type 0} (r : reads.Ghosts R) (IsOpened : Text → R → Type 0) where
  -- a task is not begun for this reason, or since it has such a word
  abbrev pub IsFaultOfStart : Task → List ℕ → ProgramFault → Type 0
  IsFaultOfStart task built (program_fault.UnknownCalendar word) = IsUnknown r IsOpened task built word.now
  IsFaultOfStart task built other = IsFaultOfTask task other

-- nothing was done for this reason, and that was reported
pub record IsRefusal {W E : Type 0} (e : outputs.Ghosts E) (why : ProgramFault) (given : W) (ended : Outcome W)
    (before after : E) : Type 0 where
  pub status : (ended.status ≡ 3) ⊎ (ended.status ≡ fault_status why)
  pub reported : (arguments : List Text) → IsFaultOfAsked arguments why → e.has_failed after ≡ false
      → IsReported arguments ended.status (e.contents before) (e.contents after)
  pub untouched : ended.output ≡ given
  pub none : ended.sheets.items ≡ []
  pub marked : e.own_mark after ≡ e.own_mark before

-- the names of a task are read, and its files are opened and made
pub record IsPrepared {R W : Type 0} (r : reads.Ghosts R) (o : outputs.Ghosts W) (IsOpened : Text → R → Type 0)
    (IsMade : Text → ℕ → W → Type 0) (AreApart : Text → Text → Type 0) (task : Task) (built : List ℕ)
    (prepared : Prepared R W) : Type 0 where
  pub names : AreNamesOf r IsOpened task built prepared.list.lines.items
  pub named : map sheet_name prepared.files.sheets.items ≡ task.files
  pub made : All (IsNewSheet o IsOpened IsMade task (register_endings task)) prepared.files.sheets.items
  pub apart : AreApartOutputs AreApart task

module _ {R W E : Type 0} (r : reads.Ghosts R) (o : outputs.Ghosts W) (e : outputs.Ghosts E) (task : Task) where
  -- the sheet of standard input was converted, and none of a file
  pub record IsInputDone (lines : List NameLine) (input : R) (given : W) (ended : Outcome W) (before after : E) : Type 0
    where
      pub converted : IsInputConverted r o e task lines ended.status input given ended.output before after
      pub none : ended.sheets.items ≡ []
      pub low : ended.status ≤ 1
      pub marked : e.own_mark after ≡ e.own_mark before

  -- the task was done, or not begun, as is to be said for any arguments that ask for it
  pub record IsTaskAnswered (IsOpened : Text → R → Type 0) (IsMade : Text → ℕ → W → Type 0) (IsNamed : Text → Type 0)
      (AreApart : Text → Text → Type 0) (built : List ℕ) (input : R) (given : W) (ended : Outcome W) (before after : E)
      : Type 0 where
    pub done : (arguments : List Text) → MeanJust arguments (work task) → ended.status ≤ 1
        → IsInputAnswered r o e IsOpened arguments built ended.status input given ended.output ended.sheets.items before
        after
        ⊎ AreFilesAnswered r o e IsOpened IsMade IsNamed AreApart arguments built ended.status given ended.output
        ended.sheets.items before after
    pub unknown : ended.status ≡ 2 → (word : Text) × IsUnknown r IsOpened task built word
    pub reported : (arguments : List Text) → MeanJust arguments (work task) → 2 ≤ ended.status
        → e.has_failed after ≡ false → IsReported arguments ended.status (e.contents before) (e.contents after)
    pub untouched : 2 ≤ ended.status → ended.output ≡ given
    pub statuses : ended.status ≤ 3
    pub marked : e.own_mark after ≡ e.own_mark before
