-- The bytes of a line.
use Rattle.std.specs.Prelude.{◌==◌, ℕ, List, drop}
use Rattle.std.specs.List.{slice_split}
use Rattle.csv.specs.Writing.{default_writer, row_text, with_delimiter}

-- the line of these fields, by csv's defaults with this delimiter: a field is quoted where it must be, and the line
-- ends with a line feed
abbrev pub line_text : ℕ → List (List ℕ) → List ℕ
line_text delimiter fields = row_text (with_delimiter default_writer delimiter) fields

-- the fields of some bytes, each behind this delimiter, which stands in none of them
abbrev pub fields_behind : ℕ → List ℕ → List (List ℕ)
fields_behind delimiter bytes = drop 1 (slice_split (λ (b : ℕ). b == delimiter) bytes)
