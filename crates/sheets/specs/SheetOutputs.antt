-- What the outputs of a sheet and of its registers have come to.
use Rattle.std.specs.Prelude.{◌≡◌, ◌≤◌, ◌++◌, ⊤, [], ℕ, List, Result, Ok, Err, Some, length, map, slice_get}
use Rattle.register_records.specs.Entries.{Fields}
use Rattle.register_records.specs.declared.outputs.Output as outputs
use Rattle.sheets.specs.Converted.{ArePartOfSheet, IsFullSheet, IsWholeSheet, records_by}
use Rattle.sheets.specs.Produced.{Ending, Produced, ending_of, first_fault, whole}
use Rattle.sheets.specs.Registers.{ArePartOfRegister, IsFullRegister, IsRegister}
use Rattle.sheets.specs.UnknownNames.{AreUnreadIn}
use Rattle.sheets.specs.declared.choices.DateColumn.{DateColumn}
use Rattle.sheets.specs.declared.choices.End.{End}
use Rattle.sheets.specs.declared.choices.End.TheVariants as ends
use Rattle.sheets.specs.declared.choices.SheetChoice.{SheetChoice}
use Rattle.sheets.specs.declared.choices.Spans.{Spans}
use Rattle.sheets.specs.declared.choices.Spans.TheVariants as spans
use Rattle.sheets.specs.declared.converting.OutputsEnd.{OutputsEnd}
use Rattle.sheets.specs.declared.sheet_ends.SheetCause.{SheetCause}
use Rattle.sheets.specs.declared.sheet_ends.SheetCause.TheVariants as cause
use Rattle.sheets.specs.declared.sheet_ends.SheetEnd.{SheetEnd}
use Rattle.sheets.specs.declared.sheet_ends.SheetEnd.TheVariants as end

-- how the writing of a sheet ended, and what its output has gained
abbrev pub sheet_ending : SheetEnd → Ending
sheet_ending (end.Whole rows counts unread) = whole
sheet_ending (end.Broken c) = ending_of {A = Unit {0}} (Err c)

abbrev pub IsMadeSheet : SheetChoice → List Fields → SheetEnd → List ℕ → Type 0
IsMadeSheet choice records (end.Whole rows counts unread) bytes =
    IsWholeSheet choice records rows counts bytes × AreUnreadIn choice records unread
IsMadeSheet choice records (end.Broken cause.NoMemory) bytes = ArePartOfSheet choice records bytes
IsMadeSheet choice records (end.Broken cause.TooManyRecords) bytes = IsFullSheet choice records bytes
IsMadeSheet choice records (end.Broken cause.NoNames) bytes = (bytes ≡ []) × (length records ≤ choice.above)
IsMadeSheet choice records (end.Broken cause.SinkFault) bytes = ⊤

-- a register: that of the first or the last days of a column of dates
abbrev pub OfColumn : Type 0
OfColumn = DateColumn × End

-- the registers of a sheet: of each column; with spans, those of the first days, and then those of the last days
abbrev pub registers_by : Spans → List DateColumn → List OfColumn
registers_by spans.Unread columns = map (λ column. (column, ends.First)) columns
registers_by spans.Ends columns =
    map (λ column. (column, ends.First)) columns ++ map (λ column. (column, ends.Last)) columns
registers_by spans.EndsAndEdtf columns =
    map (λ column. (column, ends.First)) columns ++ map (λ column. (column, ends.Last)) columns

abbrev pub registers_of : SheetChoice → List OfColumn
registers_of choice = registers_by choice.spans choice.dates.now

-- what the output of one has gained
abbrev pub IsMadeRegister : {A : Type 0} → SheetChoice → OfColumn → List Fields → Result A SheetCause → List ℕ
    → Type 0
IsMadeRegister choice of records (Ok v) bytes = (count : ℕ) × IsRegister choice of.0 of.1 records count bytes
IsMadeRegister choice of records (Err cause.NoMemory) bytes = ArePartOfRegister choice of.0 of.1 records bytes
IsMadeRegister choice of records (Err cause.TooManyRecords) bytes = IsFullRegister choice of.0 of.1 records bytes
IsMadeRegister choice of records (Err cause.NoNames) bytes = (bytes ≡ []) × (length records ≤ choice.above)
IsMadeRegister choice of records (Err cause.SinkFault) bytes = ⊤

-- these registers have each come out by an answer of its own, of which this is the first fault
pub record AreMadeRegisters {W : Type 0} (o : outputs.Ghosts W) (choice : SheetChoice) (records : List Fields)
    (result : Result (Unit {0}) SheetCause) (given written : List W) : Type 0 where
  pub answers : List (Result (Unit {0}) SheetCause)
  pub answered : length answers ≡ length given
  pub files : length written ≡ length given
  pub first : result ≡ first_fault answers
  pub each : (place : ℕ) (of : OfColumn) (answer : Result (Unit {0}) SheetCause) (g w : W)
      → slice_get (registers_of choice) place ≡ Some of → slice_get answers place ≡ Some answer
      → slice_get given place ≡ Some g → slice_get written place ≡ Some w
      → Produced o g w (ending_of answer) (IsMadeRegister choice of records answer)

-- the sheet that comes back has come out by its end, and its registers by theirs
pub record AreMadeOutputs {W : Type 0} (o : outputs.Ghosts W) (choice : SheetChoice) (text : List ℕ) (ended : OutputsEnd)
    (before after : W) (given written : List W) : Type 0 where
  pub sheet : Produced o before after (sheet_ending ended.sheet) (IsMadeSheet choice (records_by choice text) ended.sheet)
  pub registers : AreMadeRegisters o choice (records_by choice text) ended.registers given written
