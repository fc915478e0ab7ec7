use Rattle.std.proofs.Common.{false, refl}
use Rattle.sheets.proofs.Common.{SheetLines}
use Rattle.sheets.proofs.LineLemmas.{line_ended}
use Rattle.sheets.proofs.lines.SheetLines.end.Goals as goal

pub returns : goal.returns
returns c =
    let new : SheetLines =
    record { buffer = c.end_from.new.self; begun = c.len-self.result; has_field = false } in
    line_ended c.args.self.now new c.reserve.new.self
    (record { bytes = c.in_ok-reserve.ensures.value; delimiter = c.in_ok-reserve.ensures.kept })
    c.end_from.ensures.grows.0 c.end_from.ensures.value c.len-self.ensures refl
