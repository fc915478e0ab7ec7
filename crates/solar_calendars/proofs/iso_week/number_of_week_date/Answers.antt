use Rattle.std.proofs.Common.{◌≡◌, ◌+ℤ◌, pos, rules, to_z-of_z, FitsSigned, w64}
use Rattle.solar_calendars.specs.IsoWeek.{week_day_number, week_year_start}
use Rattle.solar_calendars.proofs.iso_week.number_of_week_date.Goals.{After-first_of_week_year}
use Rattle.solar_calendars.proofs.iso_week.number_of_week_date.Goals as goal

-- the number of the day, and that of the first day of the next year
record Found (c : After-first_of_week_year) : Type 0 where
  number_fits : FitsSigned w64 c.number_of-number.result
  end_fits : FitsSigned w64 c.first_of_week_year.result
  number : c.number_of-number.result ≡ week_day_number c.args.date.year c.args.date.month c.args.date.day
  end : c.first_of_week_year.result ≡ week_year_start (c.args.date.year +ℤ pos 1)

found : (c : After-first_of_week_year) → Found c
found c = search (rules, to_z-of_z)

pub returns-then-number-first_of_week_year-clause-valid : goal.returns-then-number-first_of_week_year-clause-valid
returns-then-number-first_of_week_year-clause-valid c = search (rules, found)
