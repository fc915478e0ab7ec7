-- What a task asks of a sheet, and what comes of it.
use Rattle.std.specs.Prelude.{◌≡◌, ◌≤◌, ◌<◌, ◌++◌, ◌⊎◌, ℕ, List, [], Result, Ok, Err, get_or, length, false, true}
use Rattle.csv.specs.Reading.{strip_bom}
use Rattle.register_records.specs.Entries.{Fields, record_limit, text_records}
use Rattle.register_records.specs.Sources.{Gains}
use Rattle.register_records.specs.declared.outputs.Output as outputs
use Rattle.sheets.specs.AskedOfSheets.{IsChoice, IsListedChoice, SheetAsked}
use Rattle.sheets.specs.Converted.{ArePartOfSheet, below, IsFullSheet, IsWholeSheet, records_by}
use Rattle.sheets.specs.NameLists.{IsListOf}
use Rattle.sheets.specs.SheetOutputs.{AreMadeRegisters}
use Rattle.sheets.specs.UnknownNames.{AreUnreadIn, IsUnknown, NameCount, list_text}
use Rattle.sheets.specs.declared.choices.SheetChoice.{SheetChoice}
use Rattle.sheets.specs.declared.name_lists.NameLine.{NameLine}
use Rattle.sheets.specs.declared.sheet_ends.SheetCause.{SheetCause}
use Rattle.sheet_arguments.specs.Requests.{Task}
use Rattle.sheet_app.specs.Columns.{AreDateColumns, IsIdField}
use Rattle.sheet_app.specs.SheetFaults.{IsOfColumns, fault_by}
use Rattle.sheet_app.specs.declared.sheet_faults.SheetFault.{SheetFault}
use Rattle.sheet_app.specs.declared.sheet_faults.SheetFault.TheVariants as fault
use Rattle.sheet_app.specs.declared.conversions.ListedSheet.{ListedSheet}
use Rattle.sheet_app.specs.declared.conversions.SheetDone.{SheetDone}
use Rattle.sheet_app.specs.declared.conversions.SheetDone.TheVariants as done
use Rattle.sheet_app.specs.declared.conversions.WholeSheet.{WholeSheet}

-- these are the lines of a text that is a list of names
abbrev pub IsList : List ℕ → List NameLine → Type 0
IsList text lines = IsListOf (text_records 44 text) lines

-- behind some lines stand those of such a text too
pub record GainsList (text : List ℕ) (old new : List NameLine) : Type 0 where
  pub lines : List NameLine
  pub are_its : IsList text lines
  pub gained : new ≡ old ++ lines

-- the names of a sheet's columns for a task
abbrev pub names_of : Task → List ℕ → Fields
names_of task sheet = get_or (text_records task.delimiter sheet) task.skip []

-- this is what a task asks of a sheet whose columns have these names, by the names of these lines
pub record IsAskedOf (task : Task) (lines : List NameLine) (names : Fields) (asked : SheetAsked) : Type 0 where
  pub delimiter : asked.delimiter ≡ task.delimiter
  pub above : asked.above ≡ task.skip
  pub id : IsIdField names task.id asked.id
  pub reading : asked.reading ≡ task.reading
  pub spans : asked.spans ≡ task.spans
  pub dates : AreDateColumns lines names task asked.dates
  pub columns : asked.columns ≡ task.columns

-- the choice is what a task asks of a sheet, by the names of these lines
pub record IsChoiceFor (task : Task) (lines : List NameLine) (sheet : List ℕ) (choice : SheetChoice) : Type 0 where
  pub asked : SheetAsked
  pub is_asked : IsAskedOf task lines (names_of task sheet) asked
  pub listed : IsListedChoice asked lines sheet choice
  pub is_choice : IsChoice choice

-- these bytes are the sheet with the columns asked by a choice, of which this is known: how many records it has, and how many
-- dates were refused, are empty, or were not read
pub record IsSheetBy (choice : SheetChoice) (sheet : List ℕ) (known : WholeSheet) (bytes : List ℕ) : Type 0 where
  pub whole : IsWholeSheet choice (records_by choice sheet) known.records known.counts bytes
  pub unread : AreUnreadIn choice (records_by choice sheet) known.unread

-- a sheet begins with this mark: the bytes EF BB BF, which csv takes off once, or none
abbrev pub HasMark : List ℕ → List ℕ → Type 0
HasMark sheet mark = sheet ≡ mark ++ strip_bom sheet

-- these bytes are the mark of a sheet, and behind it others, as said
pub record IsMarked (sheet : List ℕ) (AreAsSaid : List ℕ → Type 0) (bytes : List ℕ) : Type 0 where
  pub mark : List ℕ
  pub rest : List ℕ
  pub has_mark : HasMark sheet mark
  pub as_said : AreAsSaid rest
  pub written : bytes ≡ mark ++ rest

-- these bytes are the sheet that a task asks for, of which this is known
abbrev pub IsAskedSheet : Task → List NameLine → List ℕ → WholeSheet → List ℕ → Type 0
IsAskedSheet task lines sheet known bytes =
    (choice : SheetChoice) × IsChoiceFor task lines sheet choice × IsMarked sheet (IsSheetBy choice sheet known) bytes

-- these bytes are the list of the first names in a sheet that are not known by a choice, at most so many, and this is
-- known of its other dates
pub record IsListBy (choice : SheetChoice) (most : ℕ) (sheet : List ℕ) (known : ListedSheet) (bytes : List ℕ)
    : Type 0 where
  pub found : List NameCount
  pub unknown : IsUnknown choice (records_by choice sheet) most found known.more known.unread
  pub written : bytes ≡ list_text found

-- these bytes are the list that a task asks for
abbrev pub IsAskedList : Task → List NameLine → ℕ → List ℕ → ListedSheet → List ℕ → Type 0
IsAskedList task lines most sheet known bytes =
    (choice : SheetChoice) × IsChoiceFor task lines sheet choice
    × IsMarked sheet (IsListBy choice most sheet known) bytes

-- why a sheet breaks off before there is a choice
abbrev pub IsEarly : Task → List NameLine → List ℕ → SheetFault → Type 0
IsEarly task lines sheet why =
    IsOfColumns task lines (names_of task sheet) why
    ⊎ ((why ≡ fault.NoNames) × (length (text_records task.delimiter sheet) ≤ task.skip))

-- the output has gained the mark of a sheet, and behind it bytes as said
abbrev pub GainsMarked : {W : Type 0} → outputs.Ghosts W → List ℕ → W → W → (List ℕ → Type 0) → Type 0
GainsMarked o sheet given written AreAsSaid =
    Gains (o.contents given) (o.contents written) (IsMarked sheet AreAsSaid)

-- what an output has gained of a sheet that broke off by a choice, and why it did
abbrev pub IsBrokenBy : {W : Type 0} → outputs.Ghosts W → SheetChoice → List ℕ → W → W → SheetFault → Type 0
IsBrokenBy o choice sheet given written fault.OutOfMemory =
    GainsMarked o sheet given written (ArePartOfSheet choice (records_by choice sheet))
IsBrokenBy o choice sheet given written fault.Unwritten = o.has_failed written ≡ true
IsBrokenBy o choice sheet given written fault.NoNames =
    GainsMarked o sheet given written (λ rest. rest ≡ []) × (length (records_by choice sheet) ≤ choice.above)
IsBrokenBy o choice sheet given written fault.TooManyRecords =
    (record_limit < length (below choice (records_by choice sheet)))
    × GainsMarked o sheet given written (λ rest. (rest ≡ []) ⊎ IsFullSheet choice (records_by choice sheet) rest)
IsBrokenBy o choice sheet given written other = ⊥

-- the sheet that a task asks for broke off, with nothing gained, or by a choice
abbrev pub IsBroken : {W : Type 0} → outputs.Ghosts W → Task → List NameLine → List ℕ → W → W → SheetFault
    → Type 0
IsBroken o task lines sheet given written fault =
    ((written ≡ given) × IsEarly task lines sheet fault)
    ⊎ ((choice : SheetChoice) × IsChoiceFor task lines sheet choice × IsBrokenBy o choice sheet given written fault)

-- the registers of a sheet have come out by a choice, each by an answer of its own, of which this is the first fault
abbrev pub AreRegistersBy : {W : Type 0} → outputs.Ghosts W → SheetChoice → List ℕ → Result (Unit {0}) SheetCause
    → List W → List W → Type 0
AreRegistersBy o choice sheet = AreMadeRegisters o choice (records_by choice sheet)

-- what the outputs of a sheet and of its registers have gained, by how it has ended; a list is of at most so many names
abbrev pub IsEnded : {W : Type 0} → outputs.Ghosts W → Task → List NameLine → ℕ → List ℕ → W → W → List W
    → List W → SheetDone → Type 0
IsEnded o task lines most sheet given written new registers (done.Whole whole) =
    Gains (o.contents given) (o.contents written) (IsAskedSheet task lines sheet whole)
    × (o.is_flushed written ≡ true) × (task.unknown ≡ false)
    × (choice : SheetChoice) × IsChoiceFor task lines sheet choice
    × AreRegistersBy o choice sheet (Ok tt) new registers
IsEnded o task lines most sheet given written new registers (done.WholeBut fault) =
    (whole : WholeSheet)
    × Gains (o.contents given) (o.contents written) (IsAskedSheet task lines sheet whole)
    × (o.is_flushed written ≡ true) × (task.unknown ≡ false)
    × (choice : SheetChoice) × IsChoiceFor task lines sheet choice
    × (cause : SheetCause) × (fault ≡ fault_by cause) × AreRegistersBy o choice sheet (Err cause) new registers
IsEnded o task lines most sheet given written new registers (done.Listed listed) =
    Gains (o.contents given) (o.contents written) (IsAskedList task lines most sheet listed)
    × (o.is_flushed written ≡ true) × (task.unknown ≡ true) × (registers ≡ new)
IsEnded o task lines most sheet given written new registers (done.Broken fault) =
    IsBroken o task lines sheet given written fault
    × ((registers ≡ new) ⊎ ((choice : SheetChoice) × IsChoiceFor task lines sheet choice
    × (result : Result (Unit {0}) SheetCause) × AreRegistersBy o choice sheet result new registers))
