-- The columns that stand before a `RowTail`.
use Rattle.std.specs.Prelude.{Bool, true, false}
use Rattle.register_records.specs.declared.table_columns.ColumnKind.{ColumnKind}
use Rattle.register_records.specs.declared.table_columns.ColumnKind.TheVariants.{Calendar, Date, Id, Note, Number}

-- a column of an entry
abbrev pub is_of_entry : ColumnKind → Bool
is_of_entry Number = true
is_of_entry Id = true
is_of_entry Calendar = true
is_of_entry Date = true
is_of_entry Note = true
is_of_entry other = false
