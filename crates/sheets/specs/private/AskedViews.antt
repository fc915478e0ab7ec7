-- The columns asked, as the code goes through them.
use Rattle.std.specs.Prelude.{Bool, true, false, List, [], ◌∷◌}
use Rattle.sheets.specs.declared.choices.AskedColumn.{AskedColumn}
use Rattle.sheets.specs.declared.choices.AskedColumn.TheVariants.{Cells, DayNumber, Weekday}

-- a column has cells
abbrev pub has_cells : AskedColumn → Bool
has_cells (Cells target) = true
has_cells column = false

-- those that a table has of the day before its cells, in order
abbrev pub day_columns : List AskedColumn
day_columns = DayNumber ∷ Weekday ∷ []
