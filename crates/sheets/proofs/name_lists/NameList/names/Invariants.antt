use Rattle.std.proofs.Common.{◌≡◌, map, take}
use Rattle.sheets.specs.NameLists.{name_seen, names_in_dates}
use Rattle.sheets.proofs.name_lists.NameList.names.Given as goal

abbrev pub invariant-lines : goal.invariant-lines
invariant-lines l = map name_seen l.names.items ≡ names_in_dates (take l.line-index l.self.lines.items)
