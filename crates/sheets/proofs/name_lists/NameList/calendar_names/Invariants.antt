use Rattle.std.proofs.Common.{◌≡◌, map, take}
use Rattle.sheets.specs.NameLists.{calendar_names_in, calendar_seen}
use Rattle.sheets.proofs.name_lists.NameList.calendar_names.Given as goal

abbrev pub invariant-lines : goal.invariant-lines
invariant-lines l = map calendar_seen l.names.items ≡ calendar_names_in (take l.line-index l.self.lines.items)
