use Rattle.std.proofs.Common.{sym}
use Rattle.written_dates.proofs.StoodLemmas.{civil_stood}
use Rattle.written_dates.proofs.written.push_civil.Goals as goal

pub returns-in-Some : goal.returns-in-Some
returns-in-Some c =
    rw (civil_stood c.args.choice.now c.args.calendar c.args.names.now.listed.now c.args.text.now
    (c.in-Some.year.now, c.in-Some.month.now, c.in-Some.day.now)
    (sym c.in-Some.ensures))
    c.push_stood.ensures
