use Rattle.std.proofs.Common.{arith}
use Rattle.solar_calendars.proofs.ThirteenMonthsLemmas.{third_of_four_sum}
use Rattle.solar_calendars.proofs.thirteen_months.ThirdOfFourLeapRule.days_of_years.Goals as goal

pub returns-clause-value : goal.returns-clause-value
returns-clause-value c = omega (arith, third_of_four_sum c.args.years)
