use Rattle.std.proofs.Common.{map, take}
use Rattle.sheets.proofs.Common.{GainsFields}
use Rattle.sheets.proofs.lines.SheetLines.push_all.Given as goal

abbrev pub invariant-fields : goal.invariant-fields
invariant-fields l = GainsFields (map (λ field. field.now) (take l.field-index l.fields)) l.fn.self l.self
