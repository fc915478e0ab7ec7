use Rattle.std.proofs.Common.{◌≡◌, All, map}
use Rattle.sheets.proofs.Common.{named_by}
use Rattle.sheets.specs.NameLists.{IsCalendar}
use Rattle.sheets.proofs.name_calendars.calendars_said.Given as goal

abbrev pub invariant-names : goal.invariant-names
invariant-names l =
    (goal.iterator-names).can_next l.name-iterator × (goal.iterator-names).is_finite l.name-iterator
    × (l.calendars.held ≡ named_by (map (λ name. name.now) l.yielded))
    × All IsCalendar (map (λ name. name.now) l.yielded)
