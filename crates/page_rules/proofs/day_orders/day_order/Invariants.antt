use Rattle.std.proofs.Common.{◌≡◌}
use Rattle.std.specs.List.{range_with_len}
use Rattle.page_rules.proofs.day_orders.day_order.Given as goal

-- the indices so far
abbrev pub invariant-days : goal.invariant-days
invariant-days l = l.order.items ≡ range_with_len 0 l.index
