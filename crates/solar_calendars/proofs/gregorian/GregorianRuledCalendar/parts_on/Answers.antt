use Rattle.std.proofs.Common.{rules, to_z, of_z, to_z-of_z, unsigned_abs}
use Rattle.solar_calendars.proofs.GregorianLemmas.{jiff_date_valid}
use Rattle.solar_calendars.proofs.gregorian.GregorianRuledCalendar.parts_on.Goals as goal

pub returns-clause-date : goal.returns-clause-date
returns-clause-date c = search (rules, unsigned_abs, to_z, of_z, to_z-of_z, jiff_date_valid)
