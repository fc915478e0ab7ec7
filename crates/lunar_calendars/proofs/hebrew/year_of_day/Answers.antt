use Rattle.std.proofs.Common.{◌+◌, ◌*◌, ◌/◌, ◌≤◌, refl, arith}
use Rattle.day_numbers.proofs.SignedArithmeticLemmas.{signed_arith}
use Rattle.lunar_calendars.proofs.YearLengthLemmas.{after_year_one, estimate}
use Rattle.lunar_calendars.proofs.hebrew.year_of_day.Goals as goal
use Rattle.lunar_calendars.proofs.hebrew.year_of_day.Goals.{Then-day-opening}

-- the estimate of the year of a day before its new year is a year from 2 on
later : (c : Then-day-opening) → 2 ≤ (c.args.day + 29) * 98_496 / 35_975_351 + 1
later c = grind (arith, signed_arith, after_year_one)

pub of_year-requires-clause-low : goal.of_year-requires-clause-low
of_year-requires-clause-low c = omega (arith, later (goal.at.of_year-requires-clause-low c).Then-day-opening)

pub returns-then-day-opening-clause-after : goal.returns-then-day-opening-clause-after
returns-then-day-opening-clause-after c =
    let before =
    (estimate c.args.day ((c.args.day + 29) * 98_496 / 35_975_351 + 1) refl).1
    (later (goal.at.returns-then-day-opening-clause-after c).Then-day-opening) in
    omega (arith, signed_arith, before, rw c.of_year.ensures at c.of_year.result.opens.0)
