-- What is read of a record of a sheet.
use Rattle.std.specs.Prelude.{◌≡◌, ◌+◌, ◌<◌, ◌∷◌, [], ⊤, ℕ, Bool, false, true, List, Option, None, Some, Result, Ok, Err}
use Rattle.std.specs.Prelude.{if◌then◌else◌, length, map}
use Rattle.std.specs.Borrow.{Bor}
use mathlib.Core.Logic.{inl, inr}
use Rattle.std.specs.List.{AllZip}
use Rattle.csv.specs.Records.{fields_of}
use Rattle.csv.specs.declared.reader.Reader.{Reader}
use Rattle.register_records.specs.Entries.{Fields, record_limit}
use Rattle.register_records.specs.Views.{row_seen}
use Rattle.sheets.specs.Choices.{calendar_for, called_for}
use Rattle.sheets.specs.DateEnds.{Dated, DatedEnd, IsDated}
use Rattle.sheets.specs.DateStops.{DateStop, IsStopBy}
use Rattle.sheets.specs.Reading.{left_of}
use Rattle.sheets.specs.private.Reading.{IsBegun}
use Rattle.sheets.specs.declared.choices.DateColumn.{DateColumn}
use Rattle.sheets.specs.declared.end_texts.EndTexts.{EndTexts}
use Rattle.sheets.specs.declared.choices.SheetChoice.{SheetChoice}
use Rattle.sheets.specs.declared.sheet_ends.SheetCause.{SheetCause}
use Rattle.sheets.specs.declared.sheet_ends.SheetCause.TheVariants as cause
use Rattle.sheets.specs.declared.sheet_records.ColumnDates.{ColumnDates}
use Rattle.sheets.specs.declared.sheet_records.ReadEnd.{ReadEnd}
use Rattle.sheets.specs.declared.sheet_records.ReadStop.{ReadStop}
use Rattle.sheets.specs.declared.sheet_records.StopKind.{StopKind}
use Rattle.sheets.specs.declared.sheet_records.StopKind.TheVariants as kind
use Rattle.sheets.specs.declared.sheet_records.SheetRecord.{SheetRecord}

-- the date of a record in a column: the calendar that a register has of it, what stopped it, and its first and last day
pub record DateRead : Type 0 where
  pub calendar : List ℕ
  pub stop : Option DateStop
  pub dated : Dated

-- a record: its number, its own fields, and what each column of dates has of it
pub record RecordRead : Type 0 where
  pub number : ℕ
  pub fields : Fields
  pub dates : List DateRead

-- this is what is to be read for a date
pub record IsDateRead (choice : SheetChoice) (number : ℕ) (fields : Fields) (column : DateColumn) (date : DateRead)
    : Type 0 where
  pub calendar : date.calendar ≡ calendar_for choice column fields
  pub stop : IsStopBy choice column fields date.dated.first.text (called_for choice column fields) date.stop
  pub dated : IsDated choice number fields column date.dated

abbrev pub IsRecordRead : SheetChoice → RecordRead → Type 0
IsRecordRead choice read = AllZip (IsDateRead choice read.number read.fields) choice.dates.now read.dates

-- these are what is to be read of records, the first of which has the number after k
abbrev pub AreRecordsRead : SheetChoice → ℕ → List RecordRead → Type 0
AreRecordsRead choice k [] = ⊤
AreRecordsRead choice k (read ∷ reads) =
    (read.number ≡ k + 1) × IsRecordRead choice read × AreRecordsRead choice (k + 1) reads

-- the fields of records, and what the columns of dates have of one
abbrev pub fields_read : List RecordRead → List Fields
fields_read reads = map (λ (read : RecordRead). read.fields) reads

abbrev pub rows_read : RecordRead → List Dated
rows_read read = map (λ (date : DateRead). date.dated) read.dates

-- what a clause sees of the types
abbrev pub stop_of_kind : StopKind → List ℕ → Option DateStop
stop_of_kind kind.Nothing name = None
stop_of_kind (kind.Name calendar) name = Some (inl (name, calendar))
stop_of_kind (kind.Reason reason) name = Some (inr reason)

abbrev pub stop_read : ReadStop → Option DateStop
stop_read stop = stop_of_kind stop.kind stop.name.items

abbrev pub end_seen : ReadEnd → DatedEnd
end_seen end = record { calendar = end.calendar; text = end.text.items; row = row_seen end.row }

-- the text of a last day
abbrev pub last_text : EndTexts → List ℕ
last_text ends = if ends.has_last then ends.last.items else ends.first.items

-- the last day is a day of its own where its text is another than that of the first
abbrev pub last_seen : Bool → ReadEnd → ReadEnd → DatedEnd
last_seen true first last = end_seen last
last_seen false first last = end_seen first

abbrev pub dated_seen : ColumnDates → Dated
dated_seen dates =
    record {
      first = end_seen dates.first;
      last = last_seen dates.has_last dates.first dates.last;
      marks = dates.marks;
      edtf = dates.edtf.items;
    }

abbrev pub date_seen : ColumnDates → DateRead
date_seen dates =
    record { calendar = dates.calendar.items; stop = stop_read dates.stop; dated = dated_seen dates }

abbrev pub record_read : SheetRecord → RecordRead
record_read of_sheet =
    record {
      number = of_sheet.number;
      fields = fields_of of_sheet.fields;
      dates = map date_seen of_sheet.columns.items;
    }

-- of the records that were left, behind so many, the next was read with what is to be read of it
pub record IsNext (choice : SheetChoice) (count : ℕ) (left : List Fields) (reader : Reader (Bor (List ℕ)))
    (of_sheet : SheetRecord) : Type 0 where
  pub begun : IsBegun reader
  pub found : left ≡ fields_of of_sheet.fields ∷ left_of reader
  pub read : IsRecordRead choice (record_read of_sheet)
  pub number : of_sheet.number ≡ count + 1
  pub few : count < record_limit

-- the next was read, or none was left, or a fault was met
abbrev pub FindsRecord : SheetChoice → ℕ → List Fields → Reader (Bor (List ℕ)) → SheetRecord → Result Bool SheetCause
    → Type 0
FindsRecord choice count left reader of_sheet (Ok true) = IsNext choice count left reader of_sheet
FindsRecord choice count left reader of_sheet (Ok false) = left ≡ []
FindsRecord choice count left reader of_sheet (Err cause.NoMemory) = ⊤
FindsRecord choice count left reader of_sheet (Err cause.TooManyRecords) =
    (count ≡ record_limit) × (0 < length left)
FindsRecord choice count left reader of_sheet (Err other) = ⊥
