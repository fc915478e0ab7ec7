-- The fault tells the word that is missing, and the names.
use Rattle.sheet_app.proofs.Common.{fields_of, task_of}
use Rattle.sheet_app.proofs.ColumnLemmas.{missing_id}
use Rattle.sheet_app.proofs.conversions.asked_by_names.Goals as goal

pub returns-in-Err-clause-fault : goal.returns-in-Err-clause-fault
returns-in-Err-clause-fault c =
    let lines = c.args.list.now.lines.items in
    let task = task_of c.args.job.now in
    c.fault_of_columns.ensures task lines
    (missing_id lines (fields_of c.args.names) task c.in-Err.fault c.in-Err.ensures.fault)

pub returns-in-Err-dates_named-clause-fault : goal.returns-in-Err-dates_named-clause-fault
returns-in-Err-dates_named-clause-fault c =
    c.fault_of_columns-in-Err-dates_named.ensures (task_of c.args.job.now) c.args.list.now.lines.items
    c.in-Err-dates_named.ensures.fault
