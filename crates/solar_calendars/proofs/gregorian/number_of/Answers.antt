use Rattle.std.proofs.Common.{rules}
use Rattle.solar_calendars.proofs.GregorianLemmas.{jiff_day, jiff_range}
use Rattle.solar_calendars.proofs.gregorian.number_of.Goals as goal

pub returns : goal.returns
returns c = search (rules, jiff_day, jiff_range)
