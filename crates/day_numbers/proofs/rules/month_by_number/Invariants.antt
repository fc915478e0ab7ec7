use Rattle.std.proofs.Common.{◌≡◌, ◌≤◌, ◌+◌, ◌*◌, drop}
use Rattle.day_numbers.specs.Rules.{days_of_month, days_before_month}
use Rattle.day_numbers.proofs.rules.month_by_number.Given as goal

abbrev pub invariant-loop-month : goal.invariant-loop-month
invariant-loop-month l = record {
  before : days_before_month l.months l.number ≡ l.before + days_before_month (drop l.month-index l.months) l.number;
  days : days_of_month l.months l.number ≡ days_of_month (drop l.month-index l.months) l.number;
  small : l.before ≤ 255 * l.month-index;
}
