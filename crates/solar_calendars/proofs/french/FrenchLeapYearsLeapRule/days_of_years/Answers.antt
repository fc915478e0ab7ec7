use Rattle.std.proofs.Common.{arith}
use Rattle.solar_calendars.proofs.ThirteenMonthsLemmas.{french_sum}
use Rattle.solar_calendars.proofs.french.FrenchLeapYearsLeapRule.days_of_years.Goals as goal

pub returns-clause-value : goal.returns-clause-value
returns-clause-value c = omega (arith, french_sum c.args.years)
