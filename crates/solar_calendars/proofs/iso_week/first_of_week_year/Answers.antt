use Rattle.std.proofs.Common.{rules, to_z-of_z}
use Rattle.solar_calendars.proofs.IsoWeekLemmas.{week_year_is}
use Rattle.solar_calendars.proofs.iso_week.first_of_week_year.Goals as goal

pub returns-clause-value : goal.returns-clause-value
returns-clause-value c = search (rules, to_z-of_z, week_year_is)
