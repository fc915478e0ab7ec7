use Rattle.std.proofs.Common.{◌≡◌, map, take}
use Rattle.written_dates.specs.Fields.{bare_name, entry}
use Rattle.written_dates.proofs.fields.CalendarNames.layered.Given as goal

abbrev pub invariant-names : goal.invariant-names
invariant-names l = map entry l.bare.items ≡ map bare_name (take l.name-index l.listed)
