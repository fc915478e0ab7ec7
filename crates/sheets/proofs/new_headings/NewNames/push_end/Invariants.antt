use Rattle.std.proofs.Common.{map, take}
use Rattle.sheets.proofs.Common.{fields_of, NamesMore, wanted_all, asked_behind}
use Rattle.sheets.proofs.new_headings.NewNames.push_end.Given as goal

abbrev pub invariant-columns : goal.invariant-columns
invariant-columns l =
    NamesMore (wanted_all l.several l.date (map (asked_behind l.end) (take l.column-index l.columns)) (fields_of l.fn.self.own))
    l.fn.self l.self
