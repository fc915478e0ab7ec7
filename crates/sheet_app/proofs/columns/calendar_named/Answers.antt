-- The word that is missing is one of the task's.
use Rattle.std.proofs.Common.{ap, map, option_map}
use Rattle.sheet_app.proofs.Common.{Bor, Text, fields_of, task_of}
use Rattle.sheet_arguments.specs.Requests.{wanted_by}
use Rattle.sheet_app.specs.Columns.{IsMissing}
use Rattle.sheet_app.specs.private.Columns.{IsForWord}
use Rattle.sheet_app.proofs.ColumnLemmas.{missing_calendar, missing_column, missing_else}
use Rattle.sheet_app.proofs.FaultLemmas.{handed}
use Rattle.sheet_app.proofs.columns.calendar_named.Goals as goal

pub returns-in_default-column_named-clause-fault : goal.returns-in_default-column_named-clause-fault
returns-in_default-column_named-clause-fault c = λ within.
    missing_column c.args.list.now.lines.items (fields_of c.args.names.now) (task_of c.args.job.now)
    (map (λ (w : Bor Text). w.now) c.in-Columns.words.items) (map (λ (w : Bor Text). w.now) c.as_slice.result.now)
    (option_map (λ (w : Bor Text). w.now) c.in-Columns.otherwise) c.args.index c.in-Some.word.now
    (ap wanted_by c.in-Columns.is) (ap (map (λ (w : Bor Text). w.now)) c.as_slice.ensures.value) c.in-Some.ensures.some
    c.in_default-column_named.ensures.none

pub returns-in_err-otherwise-in-Columns-clause-fault : goal.returns-in_err-otherwise-in-Columns-clause-fault
returns-in_err-otherwise-in-Columns-clause-fault c = λ within.
    let lines = c.args.list.now.lines.items in
    let names = fields_of c.args.names.now in
    let task = task_of c.args.job.now in
    let why = c.in_err-otherwise-in-Columns.field-0.0 in
    handed (IsForWord (IsMissing lines names task)) c.from_residual.result why c.from_residual.ensures.1
    (missing_else lines names task (map (λ (w : Bor Text). w.now) c.in-Columns.words.items)
    (option_map (λ (w : Bor Text). w.now) c.in-Columns.otherwise) why (ap wanted_by c.in-Columns.is)
    c.in_err-otherwise-in-Columns.ensures.fault)

pub returns-in_err-meaning_said-in-Some-word_at-clause-fault :
    goal.returns-in_err-meaning_said-in-Some-word_at-clause-fault
returns-in_err-meaning_said-in-Some-word_at-clause-fault c = λ within.
    let lines = c.args.list.now.lines.items in
    let names = fields_of c.args.names.now in
    let task = task_of c.args.job.now in
    let why = c.in_err-meaning_said-in-Some-word_at.field-0.0 in
    handed (IsForWord (IsMissing lines names task)) c.from_residual-in_err-meaning_said-in-Some-word_at.result why
    c.from_residual-in_err-meaning_said-in-Some-word_at.ensures.1
    (missing_calendar lines names task (map (λ (w : Bor Text). w.now) c.in-All.words.items)
    (map (λ (w : Bor Text). w.now) c.as_slice-in-All.result.now) c.args.index c.in-Some-word_at.word.now why
    (ap wanted_by c.in-All.is) (ap (map (λ (w : Bor Text). w.now)) c.as_slice-in-All.ensures.value)
    c.in-Some-word_at.ensures.some c.in_err-meaning_said-in-Some-word_at.ensures.fault)
