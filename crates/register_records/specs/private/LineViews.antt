-- The delimiter of a `LineBuffer`.
use Rattle.std.specs.Prelude.{ℕ}
use Rattle.register_records.specs.declared.lines.LineBuffer.{LineBuffer}

-- the byte between two fields
abbrev pub line_delimiter : LineBuffer → ℕ
line_delimiter lines = lines.delimiter
