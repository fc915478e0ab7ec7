-- The machine of striped lanes over the entries and the rows of a text.
use Rattle.lane_rings.specs.Machine as machine
use Rattle.lane_rings.specs.Places as places
use Rattle.register_records.specs.Entries.{Numbered}
use Rattle.register_records.specs.Outcomes.{TableRow}

abbrev pub World : Type 0
World = machine.World Numbered TableRow

abbrev pub State : Type 0
State = machine.State Numbered TableRow

-- entries and rows have their numbers
abbrev pub numbers : places.Numbers Numbered TableRow
numbers = record { of_entry = λ entry. entry.number; of_row = λ row. row.number }
