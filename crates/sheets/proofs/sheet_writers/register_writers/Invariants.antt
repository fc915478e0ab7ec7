use Rattle.sheets.proofs.Common.{AreRegisterWriters}
use Rattle.sheets.proofs.sheet_writers.register_writers.Given as goal

abbrev pub invariant-columns : goal.invariant-columns
invariant-columns l = AreRegisterWriters l.delimiter l.columns l.place l.writers.items
