use Rattle.register_records.proofs.Common.{arith, rules, take_all, take_more}
use Rattle.register_records.proofs.RowTailLemmas.{all_cells, no_cell, one_more_cell}
use Rattle.register_records.proofs.row_tails.RowTail.push_listed_cells.Goals as goal

pub cells-init : goal.cells-init
cells-init c = search (rules, no_cell)

pub cells-preserved : goal.cells-preserved
cells-preserved c =
    let inv = c.cells.invariant in
    let self = c.args.self.now in
    let more = take_more c.args.targets.now c.cells.target-index _ c.cells-test.true in
    record {
      made = rw more (one_more_cell _ c.cells_are_plain.ensures self.separated inv.made c.put_cell-end.ensures.value);
      room = omega (arith, c.put_cell-end.ensures.grows, inv.room);
    }

pub returns-clause-value : goal.returns-clause-value
returns-clause-value c cells known = search (rules, take_all, all_cells)
