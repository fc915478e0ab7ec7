use Rattle.std.proofs.Common.{rules}
use Rattle.day_numbers.proofs.DateLemmas.{day_is}
use Rattle.solar_calendars.proofs.gregorian.GregorianArithmeticCalendar.day_of.Goals as goal

pub returns-in-Some : goal.returns-in-Some
returns-in-Some c = search (rules, day_is)
