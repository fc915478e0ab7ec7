-- The words of all columns are those of the job.
use Rattle.std.proofs.Common.{IfErr, subst, sym}
use Rattle.sheet_app.proofs.Common.{calendar_words, IsOfWords}
use Rattle.sheet_arguments.specs.Requests.{wanted_by}
use Rattle.sheet_arguments.specs.declared.requests.CalendarsAsked.{CalendarsAsked}
use Rattle.sheet_app.proofs.calendar_words.check_calendars.Goals as goal

pub returns-in-All : goal.returns-in-All
returns-in-All c =
    let lines = c.args.list.now.lines.items in
    subst (λ (asked : CalendarsAsked). IfErr c.check_words.result (IsOfWords lines (calendar_words (wanted_by asked))))
    (sym c.in-All.is) (rw c.as_slice.ensures.value at c.check_words.ensures)
