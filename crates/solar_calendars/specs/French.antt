-- The French Revolutionary calendar by its arithmetic leap rule, the modified one
-- (Reingold and Dershowitz, Calendrical Calculations, "The French Revolutionary Calendar"), and as it was used.
use Rattle.std.specs.Prelude.{Bool, not, ◌&&◌, ◌==◌, ℤ, pos}
use Rattle.day_numbers.specs.Rules.{Rules}
use Rattle.solar_calendars.specs.Remainder.{remainder}
use Rattle.solar_calendars.specs.Gregorian.{is_gregorian_leap}
use Rattle.solar_calendars.specs.ThirteenMonths.{is_third_of_four, thirteen_month_rules}

-- as in the Gregorian calendar, but every 4000th year is common
abbrev pub is_french_leap : ℤ → Bool
is_french_leap y = is_gregorian_leap y && not (remainder y 4_000 == 0)

-- from 22 September 1792, Gregorian
abbrev pub french_rules : Rules
french_rules = thirteen_month_rules (pos 654_415) is_french_leap

-- from the same day, with the leap years of the years in use, 1 to 14: 3, 7 and 11 (the decree of 4 Frimaire of year 2,
-- by which a year begins on the day of the autumn equinox in Paris, and the tables of concordance)
abbrev pub republican_rules : Rules
republican_rules = thirteen_month_rules (pos 654_415) is_third_of_four
