-- The columns of a table as the code goes through them.
use Rattle.std.specs.Prelude.{◌≡◌, Bool, ℕ, ℤ, List, [], get_or, map, Result, Ok, Err}
use Rattle.std.specs.Option.{option_map_or}
use Rattle.std.specs.Result.{result_ok}
use Rattle.std.specs.List.{flat_map}
use Rattle.date_texts.specs.Cells.{IsCell}
use Rattle.date_texts.specs.declared.target.Target.{Target}
use Rattle.date_texts.specs.declared.refusal.Refusal.{Refusal}
use Rattle.date_texts.specs.declared.refusal.Refusal.TheVariants.{FieldCount}
use Rattle.register_records.specs.Columns.{Column, Layout, columns, kind_columns, tail_order}
use Rattle.register_records.specs.Outcomes.{TableRow}
use Rattle.register_records.specs.Records.{Texts}
use Rattle.register_records.specs.declared.table_columns.ColumnKind.{ColumnKind}
use Rattle.register_records.specs.declared.table_columns.ColumnKind.TheVariants.{Calendar, Date, Id, Note}

-- a layout with notes or without, whatever its delimiter; the heading, and the fields of a row
abbrev pub laid_out : Bool → List Target → Layout
laid_out notes targets = record { writing = record { delimiter = 0; has_notes = notes }; targets = targets }

abbrev pub heading : Bool → List Target → List (List ℕ)
heading notes targets = map (λ (c : Column). c.name) (columns (laid_out notes targets))

abbrev pub row_fields : Bool → List Target → TableRow → List (List ℕ)
row_fields notes targets row = map (λ (c : Column). c.field row) (columns (laid_out notes targets))

-- what heads those of a kind, and what stands in them
abbrev pub kind_names : List Target → ColumnKind → List (List ℕ)
kind_names targets kind = map (λ (c : Column). c.name) (kind_columns targets kind)

abbrev pub kind_fields : List Target → TableRow → ColumnKind → List (List ℕ)
kind_fields targets row kind = map (λ (c : Column). c.field row) (kind_columns targets kind)

-- of one column
abbrev pub kind_name : ColumnKind → List ℕ
kind_name kind = get_or (kind_names [] kind) 0 []

abbrev pub entry_field : TableRow → ColumnKind → List ℕ
entry_field row kind = get_or (kind_fields [] row kind) 0 []

-- the same of a text, by the body
abbrev pub text_shown : Result Texts Refusal → ColumnKind → List ℕ
text_shown body Id = option_map_or (λ (t : Texts). t.id) (result_ok body) []
text_shown body Calendar = option_map_or (λ (t : Texts). t.calendar) (result_ok body) []
text_shown body Date = option_map_or (λ (t : Texts). t.date) (result_ok body) []
text_shown body Note = option_map_or (λ (t : Texts). t.note) (result_ok body) []
text_shown body kind = []

-- a row that has this outcome and these cells
abbrev pub row_with : Result ℤ Refusal → List (List ℕ) → TableRow
row_with outcome cells = record { number = 0; body = Err FieldCount; outcome = outcome; cells = cells }

-- what stands in those of a column of a tail, and in all of them: it is the same in each such row
abbrev pub column_texts : List Target → Result ℤ Refusal → List (List ℕ) → ColumnKind → List (List ℕ)
column_texts targets outcome cells kind = kind_fields targets (row_with outcome cells) kind

abbrev pub tail_texts : List Target → Result ℤ Refusal → List (List ℕ) → List (List ℕ)
tail_texts targets outcome cells = flat_map (column_texts targets outcome cells) tail_order

-- what stands in the column of a target: on a day its cell, and else nothing
abbrev pub IsCellField : Result ℤ Refusal → Target → List ℕ → Type 0
IsCellField (Ok n) target field = IsCell target n field
IsCellField (Err r) target field = field ≡ []
