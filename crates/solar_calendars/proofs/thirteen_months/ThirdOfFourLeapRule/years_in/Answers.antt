use Rattle.std.proofs.Common.{arith, ◌+◌, ◌*◌, ◌/◌}
use Rattle.solar_calendars.proofs.ThirteenMonthsLemmas.{third_of_four_sum}
use Rattle.solar_calendars.proofs.thirteen_months.ThirdOfFourLeapRule.years_in.Goals as goal

pub returns-clause-sum : goal.returns-clause-sum
returns-clause-sum c = omega (arith, third_of_four_sum ((4 * c.args.days + 2) / 1461))
