use Rattle.lunar_calendars.specs.Hebrew.{is_leap_year}
use Rattle.lunar_calendars.proofs.YearLengthLemmas.{one_of_six}
use Rattle.lunar_calendars.proofs.hebrew.hebrew_year_length.Goals as goal

pub returns-clause-one_of_six : goal.returns-clause-one_of_six
returns-clause-one_of_six c = one_of_six (is_leap_year c.of_year.result.year) c.days.result c.days.ensures.length
