use Rattle.std.proofs.Common.{arith, ◌+◌, ◌*◌, ◌/◌}
use Rattle.lunar_calendars.proofs.IslamicYearLemmas.{islamic_days}
use Rattle.lunar_calendars.proofs.islamic.IslamicYearRule.years_in.Goals as goal

pub returns-clause-sum : goal.returns-clause-sum
returns-clause-sum c = omega (arith, islamic_days ((30 * c.args.days + 15) / 10_631))
