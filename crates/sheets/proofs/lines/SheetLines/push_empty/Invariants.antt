use Rattle.std.proofs.Common.{[], replicate}
use Rattle.sheets.proofs.Common.{GainsFields}
use Rattle.sheets.proofs.lines.SheetLines.push_empty.Given as goal

abbrev pub invariant-fields : goal.invariant-fields
invariant-fields l = GainsFields (replicate l.counter []) l.fn.self l.self
