-- What a clause sees of the types of this crate.
use Rattle.std.specs.Prelude.{Bool, ℕ, List, Option, map, take}
use Rattle.std.specs.List.{flat_map}
use Rattle.std.specs.declared.io.traits.Read.{Ghosts}
use Rattle.date_texts.specs.declared.target.Target.{Target}
use Rattle.register_records.specs.Columns.{Column, kind_columns, tail_order}
use Rattle.register_records.specs.RowTails.{cells_of}
use Rattle.register_records.specs.Entries.{Numbered, Reading}
use Rattle.register_records.specs.Outcomes.{TableRow}
use Rattle.register_records.specs.Records.{has_notes}
use Rattle.register_records.specs.Seen.{has_ended, has_failed, has_stopped, output_failed, row_made}
use Rattle.register_records.specs.ShortLists.{items_in}
use Rattle.register_records.specs.Tables.{Layout, Writing, row_line}
use Rattle.register_records.specs.declared.reading.EntryReader.{EntryReader}
use Rattle.register_records.specs.declared.rows.Row.{Row}
use Rattle.register_records.specs.declared.setups.Setup.{Setup}
use Rattle.register_records.specs.declared.writing.RowWriter.{RowWriter}

-- a setup's targets in order
abbrev pub targets_of : Setup → List Target
targets_of setup = items_in setup.targets.items

-- how it has registers read, and how it has lines and tables written
abbrev pub reading_of : Setup → Reading
reading_of setup = record { delimiter = setup.delimiter; form = setup.form }

abbrev pub writing_of : Setup → Writing
writing_of setup = record { delimiter = setup.delimiter; has_notes = has_notes setup.form }

abbrev pub layout_of : Setup → Layout
layout_of setup = record { writing = writing_of setup; targets = items_in setup.targets.items }

-- the text that a reader was opened on, where the bytes of the reader underneath were known; and how it reads that text
abbrev pub text_of : {R : Type 0} {g : Ghosts R} → EntryReader R g → Option (List ℕ)
text_of {g} r = g.remaining r.source.value

abbrev pub reads_by : {R : Type 0} {g : Ghosts R} → EntryReader R g → Reading
reads_by r = record { delimiter = r.delimiter; form = r.form }

-- a call returned a fault; a call found that no entry is left
abbrev pub reader_failed : {R : Type 0} {g : Ghosts R} → EntryReader R g → Bool
reader_failed r = has_failed r.state

abbrev pub reader_ended : {R : Type 0} {g : Ghosts R} → EntryReader R g → Bool
reader_ended r = has_ended r.state

-- the entries that it gave so far, in order
abbrev pub given_of : {R : Type 0} {g : Ghosts R} → EntryReader R g → List Numbered
given_of r = r.given

-- a row's targets, and the row as a table has it
abbrev pub row_targets : Row → List Target
row_targets row = items_in row.targets.items

abbrev pub row_seen : Row → TableRow
row_seen row = row_made row.entry row.outcome (cells_of (row_targets row) row.outcome row.tail)

-- what a table shows of a row behind its entry, and the byte before each of these fields in a table that the row was made
-- for
abbrev pub tail_shown : Row → List (List ℕ)
tail_shown row = map (λ (c : Column). c.field (row_seen row)) (flat_map (kind_columns (row_targets row)) tail_order)

abbrev pub row_delimiter : Row → ℕ
row_delimiter row = row.tail.delimiter

-- how a writer writes lines
abbrev pub writes_by : RowWriter → Writing
writes_by w = record { delimiter = w.lines.delimiter; has_notes = w.has_notes }

-- a call of the writer returned a fault; its output failed
abbrev pub writer_failed : RowWriter → Bool
writer_failed w = has_stopped w.state

abbrev pub has_output_failed : RowWriter → Bool
has_output_failed w = output_failed w.state

-- the bytes of the lines that wait to be sent
abbrev pub waiting_in : RowWriter → List ℕ
waiting_in w = take w.lines.len w.lines.bytes.items

-- the line that it makes of a row
abbrev pub line_of : RowWriter → Row → List ℕ
line_of w row = row_line (record { writing = writes_by w; targets = row_targets row }) (row_seen row)
