use Rattle.register_records.proofs.Common.{take_all}
use Rattle.register_records.proofs.LineLemmas.{name_columns}
use Rattle.register_records.proofs.row_lines.put_names.Goals as goal

pub returns-after-targets-clause-value : goal.returns-after-targets-clause-value
returns-after-targets-clause-value c =
    let targets = c.args.targets.now in
    let all = take_all c.targets.target-index targets c.targets-test.false in
    rw (c.in-Cells.is, name_columns 0 targets) (rw all at c.targets.invariant.gained)
