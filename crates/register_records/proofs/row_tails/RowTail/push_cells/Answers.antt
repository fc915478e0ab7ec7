use Rattle.register_records.proofs.row_tails.RowTail.push_cells.Goals as goal

pub returns-then-targets-clause-value : goal.returns-then-targets-clause-value
returns-then-targets-clause-value c cells =
    rw (c.args.targets.now.default c.if-targets.true) (c.push_default_cells.ensures.value cells)
