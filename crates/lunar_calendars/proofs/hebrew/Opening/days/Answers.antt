use Rattle.std.proofs.Common.{◌≡◌, ◌+◌, ◌*◌, leb, refl, arith}
use mir.Val.{bool_byte}
use Rattle.lunar_calendars.specs.Hebrew.{days_in_year}
use Rattle.lunar_calendars.proofs.YearLengthLemmas.{days_by, days_at_most, length_of_year}
use Rattle.lunar_calendars.proofs.hebrew.Opening.days.Goals as goal
use Rattle.lunar_calendars.proofs.hebrew.Opening.days.Goals.{After-days_from_monday}

next : (c : After-days_from_monday) → c.args.self.monday + 7 * (c.weeks_of_months-weeks.result.0
    + bool_byte (leb 181_440 (c.args.self.time + c.weeks_of_months-weeks.result.1))) + c.days_from_monday.result
    ≡ c.args.self.day + days_in_year c.args.self.year
next c =
    let opening = c.args.self in
    let weeks = c.weeks_of_months-weeks in
    days_by opening.year opening.day opening.monday opening.part opening.time weeks.result.0 weeks.result.1 _
    c.days_from_monday.result _ opening.low opening.opens (rw c.is_leap-leap.ensures at weeks.ensures.value)
    weeks.ensures.rest refl (rw (c.is_before_leap.ensures, c.is_leap-leap.ensures) at c.days_from_monday.ensures) refl

pub overflow_sub-result : goal.overflow_sub-result
overflow_sub-result c = omega (arith, next (goal.at.overflow_sub-result c).After-days_from_monday)

pub overflow_cast-result : goal.overflow_cast-result
overflow_cast-result c = grind (arith, next, days_at_most)

pub returns : goal.returns
returns c =
    let days : _ ≡ days_in_year c.args.self.year =
    omega (arith, next (goal.at.returns c).After-days_from_monday) in
    record { value = days; length = rw days (length_of_year c.args.self.year c.args.self.low) }
