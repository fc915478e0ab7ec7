use Rattle.solar_calendars.proofs.RomanPlaceLemmas.{one_roman_date}
use Rattle.solar_calendars.proofs.laws.one_roman_date.Goals as goal

pub returns : goal.returns
returns c = one_roman_date
