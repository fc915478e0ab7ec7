-- The proleptic Gregorian calendar (Reingold and Dershowitz, Calendrical Calculations, "The Gregorian Calendar").
use Rattle.std.specs.Prelude.{Bool, not, ◌&&◌, ◌==◌, ℤ, pos}
use Rattle.day_numbers.specs.Rules.{Rules, with_zero}
use Rattle.solar_calendars.specs.Remainder.{remainder}
use Rattle.solar_calendars.specs.TwelveMonths.{twelve_months}

-- every fourth year, but of the years that end a century only every fourth
abbrev pub is_gregorian_leap : ℤ → Bool
is_gregorian_leap y =
    (remainder y 4 == 0) && not (remainder y 400 == 100) && not (remainder y 400 == 200) && not (remainder y 400 == 300)

-- day 1 is 1 January of year 1, and a year 0 lies before it
abbrev pub gregorian_rules : Rules
gregorian_rules = record { epoch = pos 1; years = with_zero; months = λ y. twelve_months (is_gregorian_leap y) }
