use Rattle.std.proofs.Common.{arith}
use Rattle.solar_calendars.proofs.ThirteenMonthsLemmas.{never_sum}
use Rattle.solar_calendars.proofs.thirteen_months.NoLeapYearLeapRule.days_of_years.Goals as goal

pub returns-clause-value : goal.returns-clause-value
returns-clause-value c = omega (arith, never_sum c.args.years)
