use Rattle.register_records.proofs.Common.{◌≡◌, cells_of, row_targets, ∥∥₁_elim, props}
use Rattle.register_records.proofs.OutcomeLemmas.{one_cells}
use Rattle.register_records.proofs.rows.Row.tail_with.Goals as goal

pub returns-clause-value : goal.returns-clause-value
returns-clause-value c =
    let row = c.args.self.now in
    let same : cells_of (row_targets row) row.outcome c.set.new.self ≡ cells_of (row_targets row) row.outcome row.tail =
    ∥∥₁_elim row.is_row (Prim.hlevel props) (λ is. one_cells c.one_cell.ensures _ _ _ _ c.set.ensures.cells is.cells) in
    cc (c.set.ensures.written, same)
