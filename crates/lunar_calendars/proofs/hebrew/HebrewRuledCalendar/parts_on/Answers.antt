use Rattle.std.proofs.Common.{◌≡◌, pos, to_z, w32, arith}
use Rattle.std.proofs.lemmas.Int.{ints}
use Rattle.lunar_calendars.proofs.YearLengthLemmas.{day_at}
use Rattle.lunar_calendars.proofs.hebrew.HebrewRuledCalendar.parts_on.Goals as goal

pub returns-clause-day : goal.returns-clause-day
returns-clause-day c =
    let opening = c.year_of_day-opening.result in
    let year : to_z w32 opening.year ≡ pos opening.year = omega (arith, ints, opening.high) in
    let sum = rw (c.is_leap.ensures, c.days.ensures.value) at c.month_at-month.ensures.sum in
    rw year (day_at opening.year opening.day _ c.month_at-month.result.0 c.month_at-month.result.1 c.args.day
    opening.low opening.opens.0 sum (omega (arith, ints, c.year_of_day-opening.ensures.after)))
