use Rattle.date_spans.proofs.EndLemmas.{on_ok, if_beside}
use Rattle.date_spans.proofs.ends.set_beside.Goals as goal

pub returns-in-Some-day_of : goal.returns-in-Some-day_of
returns-in-Some-day_of c =
    on_ok (λ near. if_beside c.args.calendar c.args.side c.args.date c.in-Some.numbers c.in-Some-day_of.day.number
    c.in-Some.is c.in-Some-day_of.ensures.some _ near) c.set_beside_day.result c.set_beside_day.ensures
