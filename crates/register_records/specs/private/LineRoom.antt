-- How many bytes the fields of a row take at most.
use Rattle.std.specs.Prelude.{◌+◌, ◌*◌, true, ℕ, List, [], ◌∷◌, drop}
use Rattle.date_texts.specs.declared.cells.TheConstants.{MAX_CELL}
use Rattle.date_texts.specs.declared.target.TheConstants.{MAX_TARGETS}
use Rattle.register_records.specs.Columns.{entry_order}
use Rattle.register_records.specs.declared.entries.TheConstants.{CALENDAR_LIMIT, DATE_LIMIT, ID_LIMIT, NOTE_LIMIT}
use Rattle.register_records.specs.declared.table_columns.TheConstants.{DAY_NUMBER_LIMIT, REFUSAL_LIMIT, WEEKDAY_LIMIT}
use Rattle.register_records.specs.declared.table_columns.ColumnKind.{ColumnKind}
use Rattle.register_records.specs.declared.table_columns.ColumnKind.TheVariants.{Calendar, Cells, Date, DayNumber, Id}
use Rattle.register_records.specs.declared.table_columns.ColumnKind.TheVariants.{Note, Number, Refusal, Weekday}
use Rattle.register_records.specs.LineRoom.{field_room}

-- the digits of a number under a hundred million
abbrev pub number_room : ℕ
number_room = 8

-- the most bytes of each text of a column
abbrev pub limit : ColumnKind → ℕ
limit Number = number_room
limit Id = ID_LIMIT
limit Calendar = CALENDAR_LIMIT
limit Date = DATE_LIMIT
limit Note = NOTE_LIMIT
limit DayNumber = DAY_NUMBER_LIMIT
limit Weekday = WEEKDAY_LIMIT
limit Cells = MAX_CELL
limit Refusal = REFUSAL_LIMIT

-- room for those of a kind behind delimiters, quoted, and as they are
abbrev pub quoted_room : ColumnKind → ℕ
quoted_room kind = 1 + field_room (limit kind)

abbrev pub plain_room : ColumnKind → ℕ
plain_room Cells = MAX_TARGETS * (1 + MAX_CELL)
plain_room kind = 1 + limit kind

-- those of some columns
abbrev pub columns_room : {C : Type 0} → (C → ℕ) → List C → ℕ
columns_room room [] = 0
columns_room room (column ∷ columns) = room column + columns_room room columns

-- what a row has of its entry: the number, and the texts
abbrev pub entry_room : ℕ
entry_room = number_room + columns_room quoted_room (drop 1 (entry_order true))

-- the names that head columns, of which each has so many bytes at most
abbrev pub name_limit : ℕ
name_limit = 16

abbrev pub name_room : ColumnKind → ℕ
name_room Cells = MAX_TARGETS * (1 + field_room name_limit)
name_room column = 1 + field_room name_limit

abbrev pub entry_name_room : ℕ
entry_name_room = 5 * (1 + field_room name_limit)
