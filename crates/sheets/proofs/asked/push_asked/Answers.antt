use Rattle.std.proofs.Common.{ap, length, subst, sym, OnOk}
use Rattle.sheets.proofs.Common.{Fields, row_seen, GainsFields}
use Rattle.register_records.specs.Views.{row_targets}
use Rattle.sheets.proofs.asked.push_asked.Goals as goal

pub returns-in-Some : goal.returns-in-Some
returns-in-Some c =
    let row = c.args.row.now in
    subst (λ (fields : Fields). OnOk c.push_tail.result (GainsFields fields c.args.lines.now c.push_tail.new.self))
    (sym (c.in-Some.ensures.value (row_seen row) (row_targets row) (sym (ap length c.targets.ensures.value))))
    c.push_tail.ensures
