use Rattle.std.proofs.Common.{arith}
use Rattle.solar_calendars.proofs.Common.{signed_arith}
use Rattle.solar_calendars.proofs.GregorianLemmas.{leap_days_are}
use Rattle.solar_calendars.proofs.gregorian.leap_days.Goals as goal

pub returns-clause-value : goal.returns-clause-value
returns-clause-value c = leap_days_are c.args.years _ (omega (arith, signed_arith))

pub returns-clause-near : goal.returns-clause-near
returns-clause-near c = omega (arith, signed_arith)
