-- What clauses see of a sheet on its way.
use Rattle.std.specs.Prelude.{◌≡◌, ◌==◌, ◌≤◌, ◌<◌, ◌⊎◌, ⊤, ℕ, Bool, Contains, List, Result, Ok, Err, false}
use Rattle.std.specs.Prelude.{length, nat_lt, true}
use Rattle.std.specs.Io.KnownBytes.{Appends}
use Rattle.std.specs.String.{string_bytes}
use Rattle.clap.specs.Words.{Text}
use Rattle.register_records.specs.Entries.{record_limit}
use Rattle.register_records.specs.SetupRules.{NamesTwice, is_delimiter}
use Rattle.register_records.specs.Sources.{Gains}
use Rattle.register_records.specs.declared.outputs.Output as outputs
use Rattle.sheets.specs.AskedOfSheets.{IsChoice, IsChoiceBy}
use Rattle.sheets.specs.Choices.{asked_targets, asks_twice, column_limit, date_limit}
use Rattle.sheets.specs.Converted.{ArePartOfSheet, IsFullSheet, below, records_by}
use Rattle.sheets.specs.declared.asked_of_sheets.AskedByNames.{AskedByNames}
use Rattle.sheets.specs.declared.choices.SheetChoice.{SheetChoice}
use Rattle.sheets.specs.declared.name_lists.NameLine.{NameLine}
use Rattle.sheets.specs.declared.sheet_ends.SheetCause.{SheetCause}
use Rattle.sheet_arguments.specs.Requests.{Task}
use Rattle.sheet_app.specs.CalendarWords.{SaysNothing}
use Rattle.sheet_app.specs.SheetFaults.{fault_by}
use Rattle.sheet_app.specs.Sheets.{AreRegistersBy, IsBroken, IsChoiceFor, IsEnded, IsSheetBy}
use Rattle.sheet_app.specs.declared.file_sheets.FileFault.{FileFault}
use Rattle.sheet_app.specs.declared.file_sheets.FileFault.TheVariants as file_fault
use Rattle.sheet_app.specs.declared.program_faults.ProgramFault.{ProgramFault}
use Rattle.sheet_app.specs.declared.program_faults.ProgramFault.TheVariants as program_fault
use Rattle.sheet_app.specs.declared.sheet_faults.SheetFault.{SheetFault}
use Rattle.sheet_app.specs.declared.sheet_faults.SheetFault.TheVariants as fault
use Rattle.sheet_app.specs.declared.conversions.SheetDone.{SheetDone}
use Rattle.sheet_app.specs.declared.conversions.SheetDone.TheVariants as done
use Rattle.sheet_app.specs.declared.conversions.WholeSheet.{WholeSheet}

-- a choice by what is known is what a task asks
abbrev pub AsksFor : Task → List NameLine → List ℕ → AskedByNames → Type 0
AsksFor task lines sheet known = (choice : SheetChoice) → IsChoiceBy known choice → IsChoiceFor task lines sheet choice

-- how a sheet has ended, or why it broke off
abbrev pub IsEndedBy : {W : Type 0} → outputs.Ghosts W → Task → List NameLine → ℕ → List ℕ → W → W → List W → List W
    → Result SheetDone SheetFault → Type 0
IsEndedBy o task lines most sheet given written new registers (Ok done) =
    IsEnded o task lines most sheet given written new registers done
IsEndedBy o task lines most sheet given written new registers (Err fault) =
    IsBroken o task lines sheet given written fault × (registers ≡ new)

-- what an output has gained, behind the mark, of a sheet that broke off by a choice, and why it did
abbrev pub IsBrokenBehind : {W : Type 0} → outputs.Ghosts W → SheetChoice → List ℕ → W → W → SheetFault → Type 0
IsBrokenBehind o choice sheet given written fault.OutOfMemory =
    (written ≡ given) ⊎ Gains (o.contents given) (o.contents written) (ArePartOfSheet choice (records_by choice sheet))
IsBrokenBehind o choice sheet given written fault.Unwritten = o.has_failed written ≡ true
IsBrokenBehind o choice sheet given written fault.NoNames =
    (written ≡ given) × (length (records_by choice sheet) ≤ choice.above)
IsBrokenBehind o choice sheet given written fault.TooManyRecords =
    (record_limit < length (below choice (records_by choice sheet)))
    × ((written ≡ given) ⊎ Gains (o.contents given) (o.contents written) (IsFullSheet choice (records_by choice sheet)))
IsBrokenBehind o choice sheet given written other = ⊥

-- how a sheet that is to be converted has ended by a choice, behind its mark
abbrev pub IsDoneBy : {W : Type 0} → outputs.Ghosts W → SheetChoice → List ℕ → W → W → List W → List W → SheetDone
    → Type 0
IsDoneBy o choice sheet given written new registers (done.Whole whole) =
    Gains (o.contents given) (o.contents written) (IsSheetBy choice sheet whole) × (o.is_flushed written ≡ true)
    × AreRegistersBy o choice sheet (Ok tt) new registers
IsDoneBy o choice sheet given written new registers (done.WholeBut fault) =
    (whole : WholeSheet)
    × Gains (o.contents given) (o.contents written) (IsSheetBy choice sheet whole) × (o.is_flushed written ≡ true)
    × (cause : SheetCause) × (fault ≡ fault_by cause) × AreRegistersBy o choice sheet (Err cause) new registers
IsDoneBy o choice sheet given written new registers (done.Listed listed) = ⊥
IsDoneBy o choice sheet given written new registers (done.Broken fault) =
    IsBrokenBehind o choice sheet given written fault
    × (result : Result (Unit {0}) SheetCause) × AreRegistersBy o choice sheet result new registers

-- memory ran out, or one of these files could not be opened
abbrev pub IsOfInputs : List Text → FileFault → Type 0
IsOfInputs names (file_fault.CannotOpen file) = Contains names file.now
IsOfInputs names (file_fault.CannotMake name) = ⊥
IsOfInputs names file_fault.OutOfMemory = ⊤

-- or one of these outputs is missing
abbrev pub IsOfOutputs : List Text → FileFault → Type 0
IsOfOutputs names (file_fault.CannotOpen file) = ⊥
IsOfOutputs names (file_fault.CannotMake name) = Contains names (string_bytes name)
IsOfOutputs names file_fault.OutOfMemory = ⊤

-- an output that has not failed had not failed before, and has gained this text, if that was said; its mark stays
pub record Says {E : Type 0} (e : outputs.Ghosts E) (before after : E) (said : Bool) (text : List ℕ) : Type 0 where
  pub good : e.has_failed after ≡ false → e.has_failed before ≡ false
  pub gained : said ≡ true → e.has_failed after ≡ false → Appends (e.contents before) (e.contents after) text
  pub marked : e.own_mark after ≡ e.own_mark before

-- what is known makes choices alone
abbrev pub MakesChoices : AskedByNames → Type 0
MakesChoices known = (choice : SheetChoice) → IsChoiceBy known choice → IsChoice choice

-- what is so of each task that arguments ask for
pub record IsTask (task : Task) : Type 0 where
  pub some_dates : (length task.dates == 0) ≡ false
  pub few_dates : nat_lt date_limit (length task.dates) ≡ false
  pub delimited : is_delimiter task.delimiter ≡ true
  pub few_columns : nat_lt column_limit (length task.columns) ≡ false
  pub once : asks_twice task.columns ≡ false
  pub targets : ¬ (NamesTwice (asked_targets task.columns))

-- memory ran out, or one of these words says nothing of the calendar of dates by the names of these lines
abbrev pub IsOfWords : List NameLine → List Text → ProgramFault → Type 0
IsOfWords lines words (program_fault.UnknownCalendar word) = Contains words word.now × SaysNothing lines word.now
IsOfWords lines words program_fault.OutOfMemory = ⊤
IsOfWords lines words other = ⊥
