-- What lists of words name.
use Rattle.std.specs.Prelude.{◌==◌, ◌++◌, ◌∷◌, Bool, List, [], codes, map, Option, Some, None, Result, Ok, Err, if◌then◌else◌}
use Rattle.std.specs.List.{find, list_any, slice_split}
use Rattle.std.specs.Str.{bytes_eq, str_to_ascii_lowercase}
use Rattle.clap.specs.Words.{Text}
use Rattle.date_texts.specs.Calendars.{all_targets}
use Rattle.date_texts.specs.Trimmed.{trimmed}
use Rattle.date_texts.specs.declared.target.Target.TheVariants as target
use Rattle.date_texts.specs.declared.calendar.Calendar.TheVariants.{Gregorian}
use Rattle.programs.specs.Faults.{Fault, refused}
use Rattle.sheets.specs.Headings.{asked_name}
use Rattle.sheets.specs.declared.choices.AskedColumn.{AskedColumn}
use Rattle.sheets.specs.declared.choices.AskedColumn.TheVariants.{Cells, Church, DayNumber, Weekday}

-- goes on with what there is, or ends with the fault where there is nothing
abbrev pub or_fault : {A B : Type 0} → Fault → Option A → (A → Result B Fault) → Result B Fault
or_fault fault None next = Err fault
or_fault fault (Some a) next = next a

-- what is said of a name that names no column, and of a column that was named before
abbrev pub unknown_column : Text → Fault
unknown_column name = refused (codes "unknown column: " ++ name)

abbrev pub column_twice : AskedColumn → Fault
column_twice column = refused (codes "column named twice: " ++ asked_name column)

-- the columns that there are
abbrev pub all_columns : List AskedColumn
all_columns = DayNumber ∷ Weekday ∷ Church ∷ map (λ target. Cells target) all_targets

-- the name is the column's: spaces and tabs at both ends taken off, ASCII letter case aside
abbrev pub is_column_name : Text → AskedColumn → Bool
is_column_name name column = bytes_eq (str_to_ascii_lowercase (trimmed name)) (asked_name column)

-- the column that a name names
abbrev pub column_named : Text → Option AskedColumn
column_named name = find (is_column_name name) all_columns

abbrev pub is_among : List AskedColumn → AskedColumn → Bool
is_among columns column = list_any (λ other. bytes_eq (asked_name other) (asked_name column)) columns

-- these columns, and behind them those that the names name, or the first name that names none or one that was named
abbrev pub with_columns : List AskedColumn → List Text → Result (List AskedColumn) Fault
with_columns columns [] = Ok columns
with_columns columns (name ∷ names) =
    or_fault (unknown_column name) (column_named name) (λ column.
    if is_among columns column then Err (column_twice column) else with_columns (columns ++ column ∷ []) names)

-- the names in a list: what stands between its commas (44)
abbrev pub names_in : Text → List Text
names_in list = slice_split (λ b. b == 44) list

-- the columns that a list names, each once; without a list the weekday and the Gregorian date
abbrev pub columns_asked : Option Text → Result (List AskedColumn) Fault
columns_asked None = Ok (Weekday ∷ Cells (target.Date Gregorian) ∷ [])
columns_asked (Some list) = with_columns [] (names_in list)
