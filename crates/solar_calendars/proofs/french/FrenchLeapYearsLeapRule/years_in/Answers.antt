use Rattle.std.proofs.Common.{◌+◌, ◌*◌, ◌/◌, arith}
use Rattle.solar_calendars.proofs.ThirteenMonthsLemmas.{french_sum}
use Rattle.solar_calendars.proofs.french.FrenchLeapYearsLeapRule.years_in.Goals as goal

pub returns-clause-sum : goal.returns-clause-sum
returns-clause-sum c = grind (
  arith,
  french_sum (4_000 * (c.args.days / 1_460_969) + c.years_in-years.result.0),
  c.years_in-years.ensures.sum,
)
