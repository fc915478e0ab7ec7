-- What a clause sees of `SheetLines`.
use Rattle.std.specs.Prelude.{◌≡◌, ◌≤◌, ◌++◌, ℕ, true, false, List, [], length}
use Rattle.register_records.specs.LineRoom as buffer
use Rattle.register_records.specs.LineViews.{line_bytes}
use Rattle.register_records.specs.private.LineViews.{line_delimiter}
use Rattle.register_records.specs.Lines.{line_text}
use Rattle.register_records.specs.Views.{row_delimiter}
use Rattle.register_records.specs.declared.rows.Row.{Row}
use Rattle.sheets.specs.declared.lines.SheetLines.{SheetLines}

-- the bytes so far are those that stood before, and then these fields with the delimiter between two of them
pub record Begins (delimiter : ℕ) (before : List ℕ) (fields : List (List ℕ)) (lines : SheetLines) : Type 0 where
  pub separated : line_delimiter lines.buffer ≡ delimiter
  pub bytes : buffer.Begins delimiter before fields (line_bytes lines.buffer)
  pub begun : lines.begun ≡ length before
  pub some : lines.has_field ≡ true → 1 ≤ length fields
  pub none : lines.has_field ≡ false → fields ≡ []

-- the line that is begun gained these fields
abbrev pub GainsFields : List (List ℕ) → SheetLines → SheetLines → Type 0
GainsFields more old new =
    (delimiter : ℕ) (before : List ℕ) (fields : List (List ℕ)) → Begins delimiter before fields old
    → Begins delimiter before (fields ++ more) new

-- the line that was begun is whole, and a new one begins
abbrev pub EndsLine : SheetLines → SheetLines → Type 0
EndsLine old new =
    (delimiter : ℕ) (before : List ℕ) (fields : List (List ℕ)) → Begins delimiter before fields old
    → Begins delimiter (before ++ line_text delimiter fields) [] new

-- a line is begun, and a row was made for a table with its delimiter
pub record TakesTail (lines : SheetLines) (row : Row) : Type 0 where
  pub begun : lines.has_field ≡ true
  pub same : line_delimiter lines.buffer ≡ row_delimiter row
