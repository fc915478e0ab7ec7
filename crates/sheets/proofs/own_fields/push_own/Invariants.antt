use Rattle.std.proofs.Common.{take}
use Rattle.sheets.proofs.Common.{fields_of, GainsFields}
use Rattle.sheets.proofs.own_fields.push_own.Given as goal

abbrev pub invariant-own : goal.invariant-own
invariant-own l = GainsFields (take l.place (fields_of l.record)) l.fn.lines l.lines
