use Rattle.written_dates.proofs.LawLemmas.{long_stands}
use Rattle.written_dates.proofs.written.push_stood.Goals as goal

pub returns-then-year-gt3 : goal.returns-then-year-gt3
returns-then-year-gt3 c =
    rw (long_stands c.args.choice.now c.args.calendar c.args.year.now c.args.month.now c.args.day.now c.if-year-gt3.true)
    c.push_joined.ensures
