use Rattle.std.proofs.Common.{◌≡◌, ◌<◌, ℕ, length}
use Rattle.page_rules.specs.DayOrders.{day_of, sorting_day}
use Rattle.page_rules.proofs.day_orders.sorting_days.Given as goal

-- the days so far
abbrev pub invariant-days : goal.invariant-days
invariant-days l =
    record {
      count : length l.days.items ≡ l.i;
      each : (k : ℕ) → k < l.i → day_of l.days.items k ≡ sorting_day (day_of l.first k) (day_of l.last k);
    }
