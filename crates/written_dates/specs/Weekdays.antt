-- The weekdays of dates, by the day numbers of the calendars, and a weekday by its number in a month.
use Rattle.std.specs.Prelude.{◌≡◌, ℕ, zero, suc, ◌+◌, ◌-◌, ◌*◌, Bool, false, not, ◌&&◌, ◌||◌, ◌==◌, nat_le, if◌then◌else◌}
use Rattle.std.specs.Prelude.{Option, Some, None, ℤ, pos, neg_ℤ, int_le}
use Rattle.day_numbers.specs.Days.{weekday_number}
use Rattle.day_numbers.specs.Rules.{Rules, IsDateOf, day_number_of, days_of_month}
use Rattle.day_numbers.specs.declared.day.Weekday.{Weekday}
use Rattle.church_year.specs.Weekdays.{number_of}
use Rattle.date_texts.specs.declared.calendar.Calendar.{Calendar}
use Rattle.date_texts.specs.declared.calendar.Calendar.TheVariants.{French, Republican}
use Rattle.date_texts.specs.Calendars.{Reckoning, by_rules, reckoning}

-- day n is one that dates are read for, and is on a weekday
abbrev pub is_day_on : ℤ → Weekday → Bool
is_day_on n weekday =
    int_le (neg_ℤ (pos 3_652_424)) n && int_le n (pos 3_652_059) && (weekday_number n == number_of weekday)

-- the rules have a date, in a year from 1 to 99999
abbrev pub has_date : Rules → ℕ → ℕ → ℕ → Bool
has_date rules year month day =
    nat_le 1 year && nat_le year 99_999 && nat_le month 99 && nat_le day 99 && nat_le 1 day
    && nat_le day (days_of_month (rules.months (pos year)) month)

abbrev pub is_on_by : Reckoning → ℕ → ℕ → ℕ → Weekday → Bool
is_on_by (by_rules rules) year month day weekday =
    has_date rules year month day && is_day_on (day_number_of rules (pos year) month day) weekday
is_on_by reckoning year month day weekday = false

-- a date that the calendar has is on a weekday
unfoldable pub is_on : Calendar → ℕ → ℕ → ℕ → Weekday → Bool
is_on calendar year month day weekday = is_on_by (reckoning calendar) year month day weekday

-- the same as a fact
abbrev pub IsOnBy : Reckoning → ℕ → ℕ → ℕ → Weekday → Type 0
IsOnBy (by_rules rules) year month day weekday =
    IsDateOf rules (pos year) month day × (weekday_number (day_number_of rules (pos year) month day) ≡ number_of weekday)
IsOnBy reckoning year month day weekday = ⊥

abbrev pub IsOn : Calendar → ℕ → ℕ → ℕ → Weekday → Type 0
IsOn calendar year month day weekday = IsOnBy (reckoning calendar) year month day weekday

-- the first of so many days of a month, from this one on, that is on a weekday
unfoldable pub first_on : Calendar → ℕ → ℕ → Weekday → ℕ → ℕ → Option ℕ
first_on calendar year month weekday zero day = None
first_on calendar year month weekday (suc more) day =
    if is_on calendar year month day weekday then Some day else first_on calendar year month weekday more (day + 1)

-- unless the day of this number is on the weekday too, and another day
abbrev pub if_no_other : Bool → ℕ → Option ℕ → Option ℕ
if_no_other also n None = None
if_no_other also n (Some day) = if also && not (day == n) then None else Some day

-- the day of the weekday of a number in a month: the first Sunday is one of its first seven days, the second one of the
-- seven behind them, and so on to the fifth
abbrev pub numbered_weekday : Calendar → ℕ → ℕ → Weekday → ℕ → Option ℕ
numbered_weekday calendar year month weekday n =
    if nat_le 1 n && nat_le n 5
    then if_no_other (is_on calendar year month n weekday) n (first_on calendar year month weekday 7 (7 * n - 6))
    else None

-- in the calendar of the French Republic, the days of a month are three times ten, of which this is the number; the days
-- behind the twelfth month have none
abbrev pub is_decade_day : Calendar → ℕ → ℕ → ℕ → Bool
is_decade_day French month day n = nat_le month 12 && ((day == n) || (day == n + 10) || (day == n + 20))
is_decade_day Republican month day n = nat_le month 12 && ((day == n) || (day == n + 10) || (day == n + 20))
is_decade_day calendar month day n = false
