-- One reading of a sheet, and what is made of it.
use Rattle.std.specs.Prelude.{◌≡◌, ◌≤◌, ◌<◌, ◌⊎◌, ◌++◌, ◌∷◌, [], ℕ, List, IfErr, Ok, Err, OnOk, Result, Some, length}
use Rattle.std.specs.Prelude.{◌-◌, if◌then◌else◌, map, nat_lt, slice_get, take}
use Rattle.std.specs.Borrow.{Bor}
use Rattle.csv.specs.declared.reader.Reader.{Reader}
use Rattle.register_records.specs.Entries.{Fields, record_limit}
use Rattle.register_records.specs.declared.outputs.Output as outputs
use Rattle.sheets.specs.Converted.{below, sheet_width}
use Rattle.sheets.specs.private.LineWriters.{Gathers, GathersEach, Makes, Waits}
use Rattle.sheets.specs.Reading.{left_of}
use Rattle.sheets.specs.private.Reading.{IsBegun}
use Rattle.sheets.specs.private.RecordLines.{body_line, entry_line}
use Rattle.sheets.specs.Registers.{register_head}
use Rattle.sheets.specs.private.Sending.{top_records}
use Rattle.sheets.specs.private.SheetNotes.{HasNotes}
use Rattle.sheets.specs.private.SheetRecords.{AreRecordsRead, RecordRead, fields_read}
use Rattle.sheets.specs.declared.choices.End.TheVariants as ends
use Rattle.sheets.specs.declared.choices.SheetChoice.{SheetChoice}
use Rattle.sheets.specs.declared.line_writers.LineWriter.{LineWriter}
use Rattle.sheets.specs.declared.record_lines.BodyLine.{BodyLine}
use Rattle.sheets.specs.declared.record_lines.EntryLine.{EntryLine}
use Rattle.sheets.specs.declared.sheet_ends.SheetCause.{SheetCause}
use Rattle.sheets.specs.declared.sheet_ends.SheetCause.TheVariants as cause
use Rattle.sheets.specs.declared.sheet_ends.SheetEnd.{SheetEnd}
use Rattle.sheets.specs.declared.sheet_ends.SheetEnd.TheVariants as end
use Rattle.sheets.specs.declared.sheet_notes.SheetNotes.{SheetNotes}
use Rattle.sheets.specs.declared.sheet_writers.SheetWriters.{SheetWriters}

-- the records of a sheet that has names are read down to these
pub record IsBelow (choice : SheetChoice) (records : List Fields) (reader : Reader (Bor (List ℕ))) : Type 0 where
  pub begun : IsBegun reader
  pub left : left_of reader ≡ below choice records
  pub named : choice.above < length records

-- why they are not: memory ran out, or there are no names
abbrev pub LacksNames : SheetChoice → List Fields → SheetCause → Type 0
LacksNames choice records c = (c ≡ cause.NoMemory) ⊎ ((c ≡ cause.NoNames) × (length records ≤ choice.above))

-- these were read, in order: the first of the records, and what is to be read of them; all of them, or as many as may
-- be
pub record HasReadSheet {A : Type 0} (choice : SheetChoice) (records : List Fields) (given : List RecordRead)
    (result : Result A SheetCause) : Type 0 where
  pub read : AreRecordsRead choice 0 given
  pub first : fields_read given ≡ take (length given) records
  pub few : length given ≤ record_limit
  pub all : OnOk result (fields_read given ≡ records)
  pub many : IfErr result (λ c. c ≡ cause.TooManyRecords
      → (length given ≡ record_limit) × (record_limit < length records))
  pub causes : IfErr result (λ c. (c ≡ cause.NoMemory) ⊎ (c ≡ cause.TooManyRecords))

-- the line of a register
abbrev pub line_of_entry : EntryLine → SheetChoice → RecordRead → Fields
line_of_entry maker = entry_line maker.place maker.end

-- what the writer of the register at a place makes, of a sheet with so many columns of dates: behind the registers of the
-- first days come those of the last
abbrev pub entry_maker : ℕ → ℕ → EntryLine
entry_maker columns place =
    if nat_lt place columns then record { place = place; end = ends.First }
    else record { place = place - columns; end = ends.Last }

-- these are the writers of the first registers, so many, and each has its header
pub record AreRegisterWriters (delimiter columns count : ℕ) (writers : List (LineWriter EntryLine)) : Type 0 where
  pub counted : length writers ≡ count
  pub each : (place : ℕ) (writer : LineWriter EntryLine) → slice_get writers place ≡ Some writer
      → (writer.maker ≡ entry_maker columns place) × Waits delimiter (register_head ∷ []) writer

-- nothing was noted of a sheet yet, and there is a file for each register
pub record AreReady {M W : Type 0} (choice : SheetChoice) (files : List W) (writers : SheetWriters M) : Type 0 where
  pub most : ℕ
  pub none_noted : HasNotes choice [] most writers.notes
  pub matched : length writers.registers.items ≡ length files

module _ {M W : Type 0} (o : outputs.Ghosts W) where
  -- these records were noted, and their lines made
  pub record Takes (line : M → SheetChoice → RecordRead → Fields) (choice : SheetChoice) (reads : List RecordRead)
      (old new : SheetWriters M) (before after : W) (given written : List W) : Type 0 where
    pub notes : (done : List RecordRead) (most : ℕ) → HasNotes choice done most old.notes
        → HasNotes choice (done ++ reads) most new.notes
    pub sheet : Gathers o line choice reads old.sheet new.sheet before after
    pub registers : GathersEach o line_of_entry choice reads old.registers.items new.registers.items given written

  -- these are read to their end, noted, and their lines made
  pub record ReadsAll (line : M → SheetChoice → RecordRead → Fields) (choice : SheetChoice) (records : List Fields)
      (result : Result (Unit {0}) SheetCause) (old new : SheetWriters M) (before after : W) (given written : List W)
      : Type 0 where
    pub reads : List RecordRead
    pub read : HasReadSheet choice records reads result
    pub takes : Takes line choice reads old new before after given written

-- a sheet is read to its end, and the lines of what stands above its records are made too
pub record ReadsSheet {W : Type 0} (o : outputs.Ghosts W) (choice : SheetChoice) (records : List Fields)
    (result : Result (Unit {0}) SheetCause) (old new : SheetWriters BodyLine) (before after : W) (given written : List
    W)
    : Type 0 where
  pub reads : List RecordRead
  pub read : HasReadSheet choice (below choice records) reads result
  pub notes : (most : ℕ) → HasNotes choice [] most old.notes → HasNotes choice reads most new.notes
  pub sheet : Makes o (top_records choice old.sheet.maker.width records
      ++ map (body_line old.sheet.maker.width choice) reads) old.sheet new.sheet before after
  pub registers : GathersEach o line_of_entry choice reads old.registers.items new.registers.items given written

-- how a sheet has ended by the answer of its writer
abbrev pub sheet_end : Result (Unit {0}) SheetCause → SheetNotes → SheetEnd
sheet_end (Ok v) notes = end.Whole notes.records notes.counts notes.found.unread
sheet_end (Err c) notes = end.Broken c

-- writers of a sheet that has names, which have made nothing of it yet but the headers of so many registers
pub record AreNewWriters (choice : SheetChoice) (records : List Fields) (count : ℕ) (writers : SheetWriters BodyLine)
    : Type 0 where
  pub named : choice.above < length records
  pub most : ℕ
  pub notes : HasNotes choice [] most writers.notes
  pub wide : writers.sheet.maker.width ≡ sheet_width choice records
  pub sheet : Waits choice.delimiter [] writers.sheet
  pub registers : AreRegisterWriters choice.delimiter (length choice.dates.now) count writers.registers.items
