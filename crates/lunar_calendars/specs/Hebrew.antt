-- The Hebrew calendar (Reingold and Dershowitz, Calendrical Calculations, "The Hebrew Calendar"). A day begins at 6 in
-- the evening before and has 24 hours of 1080 parts, 25920 parts. A mean month has 29 days, 12 hours and 793 parts,
-- 765433 parts. A molad is a mean new moon. A year opens on the day of the molad of its month Tishri, or up to two days
-- later where one of four postponements holds. Months are numbered from Nisan = 1, so that Tishri is month 7.
use Rattle.std.specs.Prelude.{ℕ, Bool, not, ◌&&◌, ◌||◌, List, [], ◌∷◌, ◌++◌, map, sum, ◌+◌, ◌-◌, ◌*◌, ◌/◌, ◌%◌}
use Rattle.std.specs.Prelude.{◌==◌, nat_lt, nat_le, if◌then◌else◌, ℤ, neg_ℤ, pos, ◌+ℤ◌, ◌-ℤ◌, unsigned_abs}
use Rattle.std.specs.List.{range_with_len}
use Rattle.day_numbers.specs.declared.rules.Month.{Month}
use Rattle.day_numbers.specs.Days.{weekday_number}
use Rattle.day_numbers.specs.Rules.{Rules, from_one, numbered_from}

-- the years 3, 6, 8, 11, 14, 17 and 19 of each 19
abbrev pub is_leap_year : ℕ → Bool
is_leap_year year = nat_lt ((7 * year + 1) % 19) 7

-- how many months a year has
abbrev pub month_count : ℕ → ℕ
month_count year = if is_leap_year year then 13 else 12

-- the months of the years before a year together, from year 1 on
unfoldable pub months_before : ℕ → ℕ
months_before year = sum (map month_count (range_with_len 1 (year - 1)))

-- the Monday that the calendar begins with, 7 October 3761 BCE of the Julian calendar
abbrev pub epoch : ℤ
epoch = neg_ℤ (pos 1_373_427)

-- the parts from the beginning of that Monday to the molad of Tishri of a year;
-- the molad of year 1 stands 5 hours and 204 parts into it
abbrev pub molad_parts : ℕ → ℕ
molad_parts year = 5_604 + 765_433 * months_before year

-- no year opens on a Sunday, a Wednesday or a Friday, the weekdays 0, 3 and 5
abbrev pub next_allowed : ℤ → ℤ
next_allowed day =
    if (weekday_number day == 0) || (weekday_number day == 3) || (weekday_number day == 5) then day +ℤ pos 1 else day

-- the day that a year opens on, from the day and the time of its molad, by the first case that applies:
-- a common year whose molad is on a Tuesday (2) at 9 hours and 204 parts or later opens on that Thursday;
-- a year after a leap year whose molad is on a Monday (1) at 15 hours and 589 parts or later opens on that Tuesday;
-- any other opens on that day, or on the day after where the molad is at noon, 18 hours into the day, or later, and
-- then on the next day on which a year may open
abbrev pub postponed : Bool → Bool → ℤ → ℕ → ℤ
postponed leap after_leap day time =
    if not leap && (weekday_number day == 2) && nat_le 9_924 time then day +ℤ pos 2
    else (if after_leap && (weekday_number day == 1) && nat_le 16_789 time then day +ℤ pos 1
    else next_allowed (if nat_le 19_440 time then day +ℤ pos 1 else day))

-- the new year, 1 Tishri, from the day of its molad and the parts of that day that have passed then; before year 1 the
-- leap rule is asked of the number 0
unfoldable pub new_year_of : ℕ → ℤ
new_year_of year =
    postponed (is_leap_year year) (is_leap_year (year - 1)) (epoch +ℤ pos (molad_parts year / 25_920))
    (molad_parts year % 25_920)

-- the days from a new year to the next
abbrev pub days_in_year : ℕ → ℕ
days_in_year year = unsigned_abs (new_year_of (year + 1) -ℤ new_year_of year)

-- the lengths of a short, a regular and a long year, common and leap
abbrev pub year_lengths : List ℕ
year_lengths = 353 ∷ 354 ∷ 355 ∷ 383 ∷ 384 ∷ 385 ∷ []

-- the months of a year, leap or not, with so many days: from Tishri (7) to Adar (12, or 12 and 13), and from Nisan (1)
-- to Elul. Heshvan (8) is longer in a long year, Kislev (9) is shorter in a short one, and a leap year has a first Adar
-- of 30 days before the second
abbrev pub months_by_length : Bool → ℕ → List Month
months_by_length leap days =
    numbered_from 7 (30 ∷ (if (days == 355) || (days == 385) then 30 else 29)
    ∷ (if (days == 353) || (days == 383) then 29 else 30) ∷ 29 ∷ 30 ∷ (if leap then 30 ∷ 29 ∷ [] else 29 ∷ []))
    ++ numbered_from 1 (30 ∷ 29 ∷ 30 ∷ 29 ∷ 30 ∷ 29 ∷ [])

abbrev pub months_of_year : ℕ → List Month
months_of_year year = months_by_length (is_leap_year year) (days_in_year year)

abbrev pub hebrew_rules : Rules
hebrew_rules = record { epoch = epoch; years = from_one; months = λ year. months_of_year (unsigned_abs year) }
