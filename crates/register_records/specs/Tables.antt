-- The table and the journal of rows.
use Rattle.std.specs.Prelude.{ℕ, ℤ, List, [], ◌∷◌, ◌++◌, map, Result, Ok, Err}
use Rattle.std.specs.List.{flat_map}
use Rattle.register_records.specs.Columns.{Column, columns}
pub use Rattle.register_records.specs.Columns.{Layout, Writing}
use Rattle.register_records.specs.Lines.{line_text}
use Rattle.register_records.specs.Outcomes.{TableRow}
use Rattle.date_texts.specs.declared.refusal.Refusal.{Refusal}
use Rattle.register_records.specs.declared.ends.Note.{Note}

-- the line of the heading: the names of the columns
abbrev pub heading_line : Layout → List ℕ
heading_line layout = line_text layout.writing.delimiter (map (λ (c : Column). c.name) (columns layout))

-- the line of a row: what stands in the columns
abbrev pub row_line : Layout → TableRow → List ℕ
row_line layout row = line_text layout.writing.delimiter (map (λ (c : Column). c.field row) (columns layout))

-- the lines of rows, in order
unfoldable pub lines_text : Layout → List TableRow → List ℕ
lines_text layout rows = flat_map (row_line layout) rows

-- the table of rows: the heading's line and theirs
abbrev pub table_text : Layout → List TableRow → List ℕ
table_text layout rows = heading_line layout ++ lines_text layout rows

-- what a row adds to the journal: its number and its refusal, where it was refused
abbrev pub refusal_notes : ℕ → Result ℤ Refusal → List Note
refusal_notes number (Ok n) = []
refusal_notes number (Err r) = record { number = number; refusal = r } ∷ []

-- the journal of rows: the refused ones, in order
unfoldable pub journal_of : List TableRow → List Note
journal_of rows = flat_map (λ (row : TableRow). refusal_notes row.number row.outcome) rows
