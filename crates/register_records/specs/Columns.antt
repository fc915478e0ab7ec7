-- The columns of a table: their order, their names, and what stands in them.
use Rattle.std.specs.Prelude.{◌+◌, Bool, true, false, ℕ, List, [], ◌∷◌, ◌++◌, codes, get_or, Option}
use Rattle.std.specs.Fmt.{decimal, signed_decimal}
use Rattle.std.specs.List.{flat_map}
use Rattle.std.specs.Option.{option_map_or}
use Rattle.std.specs.Result.{result_err, result_ok}
use Rattle.day_numbers.specs.Days.{weekday_names, weekday_number}
use Rattle.date_texts.specs.Calendars.{target_name}
use Rattle.date_texts.specs.Refusals.{refusal_number}
use Rattle.date_texts.specs.declared.target.Target.{Target}
use Rattle.register_records.specs.Outcomes.{TableRow}
use Rattle.register_records.specs.declared.table_columns.ColumnKind.{ColumnKind}
use Rattle.register_records.specs.declared.table_columns.ColumnKind.TheVariants.{Calendar, Cells, Date, DayNumber, Id}
use Rattle.register_records.specs.declared.table_columns.ColumnKind.TheVariants.{Note, Number, Weekday}
use Rattle.register_records.specs.declared.table_columns.ColumnKind.TheVariants.{Refusal as RefusalColumn}

-- how a line is written: the byte between two fields, and whether there is a column of notes
pub record Writing : Type 0 where
  pub delimiter : ℕ
  pub has_notes : Bool

-- how a table is written: its lines, and the targets of its columns
pub record Layout : Type 0 where
  pub writing : Writing
  pub targets : List Target

-- a column: its name, and what stands in it in a row
pub record Column : Type 0 where
  pub name : List ℕ
  pub field : TableRow → List ℕ

-- the columns in order: those of an entry, without notes or with them, and those of a tail
abbrev pub entry_order : Bool → List ColumnKind
entry_order false = Number ∷ Id ∷ Calendar ∷ Date ∷ []
entry_order true = Number ∷ Id ∷ Calendar ∷ Date ∷ Note ∷ []

abbrev pub tail_order : List ColumnKind
tail_order = DayNumber ∷ Weekday ∷ Cells ∷ RefusalColumn ∷ []

-- the columns of cells: each has the name of its target, and the cell at its place, which a refused row has not
abbrev pub cell_columns : ℕ → List Target → List Column
cell_columns place [] = []
cell_columns place (target ∷ targets) =
    record { name = target_name target; field = λ row. get_or row.cells place [] } ∷ cell_columns (place + 1) targets

-- the column of a value, as a text. Nothing stands where a row has no such value: no text of the record, where that was
-- refused before; no day, where it is refused; no refusal, where it is not
abbrev pub value_column : {A : Type 0} → List ℕ → (TableRow → Option A) → (A → List ℕ) → List Column
value_column name value text = record { name = name; field = λ row. option_map_or text (value row) [] } ∷ []

-- the columns of each kind
abbrev pub kind_columns : List Target → ColumnKind → List Column
kind_columns targets Number = record { name = codes "row"; field = λ row. decimal row.number } ∷ []
kind_columns targets Id = value_column (codes "id") (λ row. result_ok row.body) (λ t. t.id)
kind_columns targets Calendar = value_column (codes "calendar") (λ row. result_ok row.body) (λ t. t.calendar)
kind_columns targets Date = value_column (codes "date") (λ row. result_ok row.body) (λ t. t.date)
kind_columns targets Note = value_column (codes "note") (λ row. result_ok row.body) (λ t. t.note)
kind_columns targets DayNumber = value_column (codes "rd") (λ row. result_ok row.outcome) signed_decimal
kind_columns targets Weekday =
    value_column (codes "weekday") (λ row. result_ok row.outcome) (λ n. get_or weekday_names (weekday_number n) [])
kind_columns targets Cells = cell_columns 0 targets
kind_columns targets RefusalColumn =
    value_column (codes "refusal") (λ row. result_err row.outcome) (λ r. decimal (refusal_number r))

-- the columns of a table, in order
abbrev pub columns : Layout → List Column
columns layout = flat_map (kind_columns layout.targets) (entry_order layout.writing.has_notes ++ tail_order)
