use Rattle.std.proofs.Common.{◌/◌, arith}
use Rattle.solar_calendars.proofs.ThirteenMonthsLemmas.{never_sum}
use Rattle.solar_calendars.proofs.thirteen_months.NoLeapYearLeapRule.years_in.Goals as goal

pub returns-clause-sum : goal.returns-clause-sum
returns-clause-sum c = omega (arith, never_sum (c.args.days / 365))
