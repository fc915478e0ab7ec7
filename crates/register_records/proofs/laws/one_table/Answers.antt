use Rattle.std.proofs.Common.{rules}
use Rattle.register_records.proofs.OutcomeLemmas.{one_beside, one_row}
use Rattle.register_records.proofs.laws.one_table.Goals as goal

pub returns : goal.returns
returns c reading targets text entries others rows more h k a b =
    let row = one_row c.one_calendar.ensures c.one_date_text.ensures c.one_cell.ensures in
    search (rules, one_beside, row)
