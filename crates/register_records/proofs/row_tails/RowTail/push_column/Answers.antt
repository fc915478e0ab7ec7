use Rattle.register_records.proofs.Common.{◌≡◌, [], get_or, ◌∙◌, arith, weekday_names, weekday_number}
use Rattle.register_records.proofs.RowTailLemmas.{Fits, weekday_fits}
use Rattle.register_records.proofs.row_tails.RowTail.push_column.Goals as goal
use Rattle.register_records.proofs.row_tails.RowTail.push_column.Goals.{After-as_bytes}

weekday : (c : After-as_bytes) → Fits c.args.self.now.delimiter 9 c.as_bytes.result.now
weekday c =
    let self = c.args.self.now in
    let number = weekday_number c.in-Weekday-Ok.day.number in
    let text : c.as_bytes.result.now ≡ get_or weekday_names number [] =
    c.as_bytes.ensures.value ∙ c.name.ensures number c.weekday.ensures in
    rw text (weekday_fits self.delimiter self.separated number)

pub push-requires-clause-plain : goal.push-requires-clause-plain
push-requires-clause-plain c = (weekday c).plain

pub push-requires-clause-room : goal.push-requires-clause-room
push-requires-clause-room c = omega (arith, rw c.in-Weekday-Ok.is-0 at c.requires.room, (weekday c).short)

pub returns-in-Weekday-Ok-clause-grows : goal.returns-in-Weekday-Ok-clause-grows
returns-in-Weekday-Ok-clause-grows c =
    let short = (weekday (goal.at.returns-in-Weekday-Ok-clause-grows c).After-as_bytes).short in
    rw c.in-Weekday-Ok.is-0 (omega (arith, c.push.ensures.len, short))
