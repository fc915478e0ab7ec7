-- The arithmetic Islamic calendar (Reingold and Dershowitz, Calendrical Calculations, "The Islamic Calendar").
-- Months have 30 and 29 days by turns, and the last month of a leap year has one day more.
use Rattle.std.specs.Prelude.{ℕ, Bool, [], ◌∷◌, List, ◌+◌, ◌*◌, ◌%◌, nat_lt, if◌then◌else◌, pos, unsigned_abs}
use Rattle.day_numbers.specs.declared.rules.Month.{Month}
use Rattle.day_numbers.specs.Rules.{Rules, from_one, numbered_from}

-- the years 2, 5, 7, 10, 13, 16, 18, 21, 24, 26 and 29 of each 30
abbrev pub is_leap_year : ℕ → Bool
is_leap_year year = nat_lt ((11 * year + 14) % 30) 11

-- the months of a year, from Muharram to Dhu al-Hijja
abbrev pub months_of_year : ℕ → List Month
months_of_year year =
    numbered_from 1 (30 ∷ 29 ∷ 30 ∷ 29 ∷ 30 ∷ 29 ∷ 30 ∷ 29 ∷ 30 ∷ 29 ∷ 30 ∷ (if is_leap_year year then 30 else 29) ∷ [])

-- year 1 begins on Friday, 16 July 622 of the Julian calendar
abbrev pub islamic_rules : Rules
islamic_rules = record { epoch = pos 227_015; years = from_one; months = λ year. months_of_year (unsigned_abs year) }
