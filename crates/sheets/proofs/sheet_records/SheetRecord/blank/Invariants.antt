use Rattle.std.proofs.Common.{◌≡◌, length}
use Rattle.sheets.proofs.sheet_records.SheetRecord.blank.Given as goal

abbrev pub invariant-columns : goal.invariant-columns
invariant-columns l = length l.columns.items ≡ l.counter
