use Rattle.std.proofs.Common.{rules, to_z-of_z}
use Rattle.solar_calendars.proofs.Common.{signed_casts}
use Rattle.solar_calendars.proofs.RomanPlaceLemmas.{kalends_far, kalends_near, kalends_place}
use Rattle.solar_calendars.proofs.roman.place_before_kalends.Goals as goal

pub returns-then-day-ides_before-clause-valid : goal.returns-then-day-ides_before-clause-valid
returns-then-day-ides_before-clause-valid c = search (rules, to_z-of_z, signed_casts, kalends_far)

pub returns-clause-valid : goal.returns-clause-valid
returns-clause-valid c = search (rules, to_z-of_z, kalends_near, signed_casts)

pub returns-clause-value : goal.returns-clause-value
returns-clause-value c = search (rules, to_z-of_z, signed_casts, kalends_place)
