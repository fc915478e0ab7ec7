use Rattle.std.proofs.Common.{refl}
use Rattle.sheets.proofs.LineLemmas.{gained_at_last}
use Rattle.sheets.proofs.record_lines.BodyLineRecordLine.push.Goals as goal

pub returns : goal.returns
returns c =
    gained_at_last c.push_rows.result _ _ _ c.args.lines.now c.push_own.new.lines c.push_rows.new.lines
    c.in_ok-push_own.ensures c.push_rows.ensures refl
