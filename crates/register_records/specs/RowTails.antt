-- What a clause sees of a `RowTail`.
use Rattle.std.specs.Prelude.{Bool, true, false, ℕ, List, [], drop, length, take, Result, Ok, Err}
use Rattle.std.specs.List.{position_or_len}
use Rattle.day_numbers.specs.declared.day.Day.{Day}
use Rattle.date_texts.specs.declared.target.Target.{Target}
use Rattle.date_texts.specs.declared.refusal.Refusal.{Refusal}
use Rattle.register_records.specs.Columns.{tail_order}
use Rattle.register_records.specs.Lines.{fields_behind}
use Rattle.register_records.specs.declared.row_tails.RowTail.{RowTail}
use Rattle.register_records.specs.declared.table_columns.ColumnKind.{ColumnKind}
use Rattle.register_records.specs.declared.table_columns.ColumnKind.TheVariants.{Cells}

-- its bytes, and its fields
abbrev pub tail_bytes : RowTail → List ℕ
tail_bytes tail = take tail.len tail.buffer

abbrev pub fields_of : RowTail → List (List ℕ)
fields_of tail = fields_behind tail.delimiter (tail_bytes tail)

-- the column of the cells
abbrev pub is_cells : ColumnKind → Bool
is_cells Cells = true
is_cells other = false

-- its cells: on a day one for each target, behind what stands in the columns before theirs; a refused row has none
abbrev pub cells_of : List Target → Result Day Refusal → RowTail → List (List ℕ)
cells_of targets (Ok day) tail = take (length targets) (drop (position_or_len is_cells tail_order) (fields_of tail))
cells_of targets (Err r) tail = []
