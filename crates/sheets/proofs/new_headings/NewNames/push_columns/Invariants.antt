use Rattle.std.proofs.Common.{map, take}
use Rattle.sheets.proofs.Common.{fields_of, NamesMore, wanted_all}
use Rattle.sheets.specs.Headings.{asked_name}
use Rattle.sheets.proofs.new_headings.NewNames.push_columns.Given as goal

abbrev pub invariant-columns : goal.invariant-columns
invariant-columns l =
    NamesMore (wanted_all l.several l.date (map asked_name (take l.column-index l.columns)) (fields_of l.fn.self.own))
    l.fn.self l.self
