use Rattle.std.proofs.Common.{◌≡◌, ◌+◌}
use Rattle.written_dates.specs.Weekdays.{first_on}
use Rattle.written_dates.proofs.weekdays.first_on.Given as goal

abbrev pub invariant-days : goal.invariant-days
invariant-days l = record {
  found : first_on l.calendar l.year l.month l.weekday l.left l.day
      ≡ first_on l.calendar l.year l.month l.weekday 7 l.fn.from;
  within : l.day + l.left ≡ l.fn.from + 7;
}

abbrev pub decreases-days : goal.decreases-days
decreases-days l = l.left
