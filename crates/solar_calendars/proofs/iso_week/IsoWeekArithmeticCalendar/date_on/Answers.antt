use Rattle.day_numbers.proofs.DateLemmas.{only_found}
use Rattle.solar_calendars.specs.private.IsoWeekLaw.{one_week_date}
use Rattle.solar_calendars.proofs.iso_week.IsoWeekArithmeticCalendar.date_on.Goals as goal

pub returns-clause-only : goal.returns-clause-only
returns-clause-only c =
    only_found _ _ one_week_date c.args.day.number c.week_date_on.result (λ d h e. c.week_date_on.ensures.dated)
    c.week_date_on.ensures.value
