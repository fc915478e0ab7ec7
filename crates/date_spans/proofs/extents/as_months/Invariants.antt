use Rattle.std.proofs.Common.{◌≡◌, ◌≤◌, ◌++◌, drop, length, map}
use Rattle.date_spans.specs.Extents.{as_month}
use Rattle.date_spans.proofs.extents.as_months.Given as goal

abbrev pub invariant-items : goal.invariant-items
invariant-items l = record {
  same : l.months.items ++ map as_month (drop l.item-index l.items) ≡ map as_month l.items;
  few : length l.months.items ≤ l.item-index;
}
