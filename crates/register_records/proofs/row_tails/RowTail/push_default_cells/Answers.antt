use Rattle.register_records.proofs.Common.{take, default_targets, tail_bytes, outcome_seen}
use Rattle.register_records.proofs.RowTailLemmas.{HasCells, all_cells, no_cell, one_more_cell}
use Rattle.register_records.proofs.row_tails.RowTail.push_default_cells.Goals as goal
use Rattle.register_records.proofs.row_tails.RowTail.push_default_cells.Goals.{After-put_cell-end-14}

made : (c : After-put_cell-end-14)
    → HasCells c.args.self.now.delimiter (outcome_seen c.args.outcome) default_targets (tail_bytes c.args.self.now)
    (take c.put_cell-end-14.result c.put_cell-end-14.new.bytes)
made c =
    let self = c.args.self.now in
    let law = c.cells_are_plain.ensures in
    let h = self.separated in
    one_more_cell _ law h
    (one_more_cell _ law h
    (one_more_cell _ law h
    (one_more_cell _ law h
    (one_more_cell _ law h
    (one_more_cell _ law h
    (one_more_cell _ law h
    (one_more_cell _ law h
    (one_more_cell _ law h
    (one_more_cell _ law h
    (one_more_cell _ law h
    (one_more_cell _ law h
    (one_more_cell _ law h
    (one_more_cell _ law h
    (no_cell self.delimiter (outcome_seen c.args.outcome) (tail_bytes self) self.plain) c.put_cell-end.ensures.value)
    c.put_cell-end-2.ensures.value)
    c.put_cell-end-3.ensures.value)
    c.put_cell-end-4.ensures.value)
    c.put_cell-end-5.ensures.value)
    c.put_cell-end-6.ensures.value)
    c.put_cell-end-7.ensures.value)
    c.put_cell-end-8.ensures.value)
    c.put_cell-end-9.ensures.value)
    c.put_cell-end-10.ensures.value)
    c.put_cell-end-11.ensures.value)
    c.put_cell-end-12.ensures.value)
    c.put_cell-end-13.ensures.value)
    c.put_cell-end-14.ensures.value

pub returns-clause-value : goal.returns-clause-value
returns-clause-value c cells known =
    all_cells c.one_cell.ensures _ (outcome_seen c.args.outcome) default_targets _ _
    (made (goal.at.returns-clause-value c).After-put_cell-end-14) cells known

pub invariant_of-self-clause-plain : goal.invariant_of-self-clause-plain
invariant_of-self-clause-plain c =
    (made (goal.at.invariant_of-self-clause-plain c).After-put_cell-end-14).put.plain
