use Rattle.register_records.proofs.Common.{◌≡◌, items_in}
use Rattle.register_records.proofs.row_tails.RowTail.cells.Given as goal

abbrev pub invariant-cells : goal.invariant-cells
invariant-cells l = items_in l.cells ≡ l.yielded
