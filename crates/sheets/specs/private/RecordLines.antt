-- The lines that are made of a sheet's records.
use Rattle.std.specs.Prelude.{ℕ, List, [], ◌∷◌, Option, None, Some, slice_get}
use Rattle.register_records.specs.Entries.{Fields}
use Rattle.sheets.specs.CalendarChanges.{EndText, end_calendar}
use Rattle.sheets.specs.Choices.{id_text}
use Rattle.sheets.specs.Converted.{body_record}
use Rattle.sheets.specs.DateEnds.{as_text, one_end}
use Rattle.sheets.specs.private.SheetRecords.{DateRead, RecordRead, rows_read}
use Rattle.sheets.specs.declared.choices.End.{End}
use Rattle.sheets.specs.declared.choices.SheetChoice.{SheetChoice}

-- that of the sheet that comes back: the record, and what comes behind it for its dates
abbrev pub body_line : ℕ → SheetChoice → RecordRead → Fields
body_line width choice read = body_record width choice read.fields (rows_read read)

-- that of a register of a column of dates
abbrev pub entry_at : SheetChoice → RecordRead → List ℕ → EndText → Fields
entry_at choice read calendar end =
    id_text choice.id read.number read.fields ∷ end_calendar end.calendar calendar ∷ end.text ∷ []

abbrev pub entry_of : SheetChoice → RecordRead → End → DateRead → Fields
entry_of choice read end date =
    entry_at choice read date.calendar (one_end end (as_text date.dated.first) (as_text date.dated.last))

abbrev pub if_dated : SheetChoice → RecordRead → End → Option DateRead → Fields
if_dated choice read end None = []
if_dated choice read end (Some date) = entry_of choice read end date

abbrev pub entry_line : ℕ → End → SheetChoice → RecordRead → Fields
entry_line place end choice read = if_dated choice read end (slice_get read.dates place)
