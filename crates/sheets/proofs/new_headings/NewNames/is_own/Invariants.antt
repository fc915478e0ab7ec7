use Rattle.std.proofs.Common.{◌≡◌, drop}
use Rattle.sheets.proofs.Common.{fields_of, is_taken}
use Rattle.sheets.proofs.new_headings.NewNames.is_own.Given as goal

abbrev pub invariant-own : goal.invariant-own
invariant-own l = is_taken (drop l.place (fields_of l.self.own)) l.name ≡ is_taken (fields_of l.self.own) l.name
