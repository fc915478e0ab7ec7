-- Week dates: a year, a week of it and a day of the week, from Monday = 1 to Sunday = 7 (ISO 8601).
use Rattle.std.specs.Prelude.{ℕ, ◌≤◌, ℤ, pos, ◌+ℤ◌, ◌-ℤ◌, ◌*ℤ◌, ◌<ℤ◌}
use Rattle.day_numbers.specs.Rules.{day_number_of}
use Rattle.solar_calendars.specs.Remainder.{remainder}
use Rattle.solar_calendars.specs.Gregorian.{gregorian_rules}

-- the Monday on or before a day; day 1 is a Monday
abbrev pub monday_on_or_before : ℤ → ℤ
monday_on_or_before n = n -ℤ pos (remainder (n -ℤ pos 1) 7)

-- week 1 of a year is the week of 4 January, and begins the year
unfoldable pub week_year_start : ℤ → ℤ
week_year_start y = monday_on_or_before (day_number_of gregorian_rules y 1 4)

-- the day number of a week date
abbrev pub week_day_number : ℤ → ℕ → ℕ → ℤ
week_day_number y week day = week_year_start y +ℤ pos 7 *ℤ (pos week -ℤ pos 1) +ℤ pos day -ℤ pos 1

-- the year has this week and day of the week: the day is one before the next year
abbrev pub IsWeekDate : ℤ → ℕ → ℕ → Type 0
IsWeekDate y week day =
    (1 ≤ week) × (1 ≤ day) × (day ≤ 7) × (week_day_number y week day <ℤ week_year_start (y +ℤ pos 1))
