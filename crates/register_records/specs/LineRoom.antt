-- How a line is written, and how many bytes its fields take at most. The public contracts of lines cite it.
use Rattle.std.specs.Prelude.{◌≡◌, ◌≤◌, ◌+◌, ◌*◌, ◌++◌, ℕ, List, length}
use Rattle.csv.specs.Writing.{default_writer, row_body, with_delimiter}
use Rattle.csv.specs.declared.writer.WriterBuilder.{WriterBuilder}

-- as csv writes by its defaults, with this delimiter
abbrev pub writing : ℕ → WriterBuilder
writing delimiter = with_delimiter default_writer delimiter

-- bytes that are those that stood before, and then these fields with the delimiter between two of them
abbrev pub Begins : ℕ → List ℕ → List (List ℕ) → List ℕ → Type 0
Begins delimiter before fields bytes = bytes ≡ before ++ row_body (writing delimiter) fields

-- a line of a field or more gained these
abbrev pub GainsFields : ℕ → List (List ℕ) → List ℕ → List ℕ → Type 0
GainsFields delimiter more old new =
    (before : List ℕ) (fields : List (List ℕ)) → 1 ≤ length fields → Begins delimiter before fields old
    → Begins delimiter before (fields ++ more) new

-- a field with this many bytes: two quotes, and each byte twice
abbrev pub field_room : ℕ → ℕ
field_room n = 2 + 2 * n
