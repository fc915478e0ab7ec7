-- The Julian calendar (Reingold and Dershowitz, Calendrical Calculations, "The Julian Calendar").
use Rattle.std.specs.Prelude.{Bool, ◌==◌, ℤ, pos, negsuc, neg_ℤ}
use Rattle.day_numbers.specs.Rules.{Rules, without_zero}
use Rattle.solar_calendars.specs.Remainder.{remainder}
use Rattle.solar_calendars.specs.TwelveMonths.{twelve_months}

-- every fourth year: 4, 8, .., and before year 1 the years -1, -5, ..
abbrev pub is_julian_leap : ℤ → Bool
is_julian_leap (pos n) = remainder (pos n) 4 == 0
is_julian_leap (negsuc n) = remainder (negsuc n) 4 == 3

-- 1 January of year 1 is two days before the Gregorian one, and year 1 follows year -1
abbrev pub julian_rules : Rules
julian_rules = record { epoch = neg_ℤ (pos 1); years = without_zero; months = λ y. twelve_months (is_julian_leap y) }
