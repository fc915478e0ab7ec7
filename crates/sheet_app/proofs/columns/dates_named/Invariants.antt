use Rattle.sheet_app.proofs.Common.{fields_of, task_of}
use Rattle.sheet_app.proofs.ColumnLemmas.{AreFirstDates}
use Rattle.sheet_app.proofs.columns.dates_named.Given as goal

-- the columns so far
abbrev pub invariant-dates : goal.invariant-dates
invariant-dates l = AreFirstDates l.list.lines.items (fields_of l.names) (task_of l.job) l.dates.items l.index
