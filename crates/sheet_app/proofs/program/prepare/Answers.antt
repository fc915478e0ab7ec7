-- A task is not begun for one of its files, or for one of its words.
use Rattle.sheet_arguments.specs.Requests.{task_of}
use Rattle.sheet_app.specs.private.Answers.{IsFaultOfStart}
use Rattle.sheet_app.proofs.FaultLemmas.{handed}
use Rattle.sheet_app.proofs.StartLemmas.{of_task, of_words}
use Rattle.sheet_app.proofs.program.prepare.Goals as goal

pub returns-in_err-list-clause-fault : goal.returns-in_err-list-clause-fault
returns-in_err-list-clause-fault g c =
    let task = task_of c.args.job.now in
    let IsOpened = g.P.FileStore.is_opened c.args.store.now in
    let why = c.in_err-list.field-0.0 in
    handed (IsFaultOfStart g.R.Read IsOpened task c.args.built.now) c.from_residual.result why c.from_residual.ensures.1
    (of_task g.R.Read IsOpened task c.args.built.now why c.in_err-list.ensures.fault)

pub returns-in_err-check_calendars-clause-fault : goal.returns-in_err-check_calendars-clause-fault
returns-in_err-check_calendars-clause-fault g c =
    let task = task_of c.args.job.now in
    let IsOpened = g.P.FileStore.is_opened c.args.store.now in
    let why = c.in_err-check_calendars.field-0.0 in
    handed (IsFaultOfStart g.R.Read IsOpened task c.args.built.now) c.from_residual-in_err-check_calendars.result why
    c.from_residual-in_err-check_calendars.ensures.1
    (of_words g.R.Read IsOpened task c.args.built.now c.in_ok-list.list.lines.items why c.in_ok-list.ensures.lists
    c.in_err-check_calendars.ensures)
