-- Each turn finds the next column.
use Rattle.std.proofs.Common.{rules, ◌≡◌, ◌<◌, ◌∷◌, ◌++◌, [], get_or, length, arith}
use Rattle.sheet_app.proofs.Common.{Bor, Text, fields_of, DateColumn, task_of}
use Rattle.sheets.proofs.RowLemmas.{seen_at}
use Rattle.sheet_app.proofs.ColumnLemmas.{date_column, one_more_date}
use Rattle.sheet_app.proofs.columns.dates_named.Goals as goal

pub dates-preserved : goal.dates-preserved
dates-preserved c =
    let names = fields_of c.args.names.now in
    let task = task_of c.args.job.now in
    let words = c.args.job.now.dates.items in
    let index = c.dates.index in
    let word = c.index-word.result.now in
    let column : DateColumn = record { date = c.in-Some.date; calendar = c.in_ok-calendar.calendar } in
    let within : index < length words = omega (arith, c.dates-test.true, c.len-index-end.ensures) in
    let there : word ≡ get_or words index word = search rules in
    let pushed : c.push.new.self.items ≡ c.dates.dates.items ++ column ∷ [] = search rules in
    let lines = c.args.list.now.lines.items in
    one_more_date lines names task c.dates.dates.items c.push.new.self.items index column c.dates.invariant
    (date_column lines names task index word.now column (seen_at (λ (w : Bor Text). w.now) words index word within there)
    c.in-Some.ensures.some c.in_ok-calendar.ensures.field) pushed
