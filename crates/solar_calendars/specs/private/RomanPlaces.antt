-- Roman dates by the days of the month, as the code finds them.
use Rattle.std.specs.Prelude.{ℕ, zero, suc, ◌+◌, ◌-◌, ◌≤◌, Bool, IsTrue, ◌==◌, ◌&&◌, nat_le, if◌then◌else◌, ℤ}
use Rattle.std.specs.Prelude.{pos, negsuc, ◌-ℤ◌}
use Rattle.day_numbers.specs.Rules.{without_zero, days_of_month}
use Rattle.day_numbers.proofs.RulesLemmas.{next_year}
use Rattle.solar_calendars.specs.Julian.{is_julian_leap}
use Rattle.solar_calendars.specs.TwelveMonths.{twelve_months}
use Rattle.solar_calendars.specs.Roman.{day_of_ides, principal_day, has_two_sixths}
use Rattle.solar_calendars.specs.declared.roman_date.RomanName.{RomanName}
use Rattle.solar_calendars.specs.declared.roman_date.RomanName.TheVariants.{Kalends, Nones, Ides, SecondSixth}
use Rattle.solar_calendars.specs.declared.roman_date.RomanDate.{RomanDate}

-- the Nones stand 8 days before the Ides
abbrev pub day_of_nones : ℕ → ℕ
day_of_nones month = day_of_ides month - 8

-- the day numbers of the principal days of a month
abbrev pub kalends : ℤ → ℕ → ℤ
kalends year month = principal_day year month (Kalends 1)

abbrev pub nones : ℤ → ℕ → ℤ
nones year month = principal_day year month (Nones 1)

abbrev pub ides : ℤ → ℕ → ℤ
ides year month = principal_day year month (Ides 1)

abbrev pub month_length : ℤ → ℕ → ℕ
month_length year month = days_of_month (twelve_months (is_julian_leap year)) month

-- the year before a year: -1 lies before 1
abbrev pub year_before : ℤ → ℤ
year_before (pos (suc zero)) = negsuc 0
year_before year = year -ℤ pos 1

-- the month before a month, and its year
abbrev pub month_before : ℕ → ℕ
month_before month = if month == 1 then 12 else month - 1

abbrev pub year_of_month_before : ℤ → ℕ → ℤ
year_of_month_before year month = if month == 1 then year_before year else year

-- the day number of the principal day before that of a name: Kalends, Nones and Ides follow each other, and then the
-- next month's Kalends
abbrev pub preceding_day : ℤ → ℕ → RomanName → ℤ
preceding_day year month (Nones count) = principal_day year month (Kalends 1)
preceding_day year month (Ides count) = principal_day year month (Nones 1)
preceding_day year month name = principal_day (year_of_month_before year month) (month_before month) (Ides 1)

-- the length and the Ides of the month before a month
abbrev pub prior_length : ℤ → ℕ → ℕ
prior_length year month = month_length (year_of_month_before year month) (month_before month)

abbrev pub prior_ides : ℕ → ℕ
prior_ides month = day_of_ides (month_before month)

-- the month after a month, and its year
abbrev pub next_month : ℕ → ℕ
next_month month = if month == 12 then 1 else month + 1

abbrev pub year_of_next_month : ℤ → ℕ → ℤ
year_of_next_month year month = if month == 12 then next_year without_zero year else year

-- how many days before the Kalends the day with this count lies, which is at least 1
abbrev pub kalends_back : Bool → ℕ → ℕ
kalends_back two_sixths count = if two_sixths && nat_le 6 count then count else count - 1

-- a name names a day: by whether there are two sixths, the Ides of the month, and the length and the Ides of the
-- month before
abbrev pub IsPlaced : Bool → ℕ → ℕ → ℕ → RomanName → Type 0
IsPlaced two_sixths ides length before (Kalends k) = (1 ≤ k) × (kalends_back two_sixths k + before ≤ length)
IsPlaced two_sixths ides length before (Nones k) = (1 ≤ k) × (k + 1 ≤ ides - 8)
IsPlaced two_sixths ides length before (Ides k) = (1 ≤ k) × (k ≤ 8)
IsPlaced two_sixths ides length before SecondSixth = IsTrue two_sixths

-- how many days after the Kalends of the month that day lies
abbrev pub place : Bool → ℕ → RomanName → ℤ
place two_sixths ides (Kalends k) = pos 0 -ℤ pos (kalends_back two_sixths k)
place two_sixths ides (Nones k) = pos (ides - 8) -ℤ pos k
place two_sixths ides (Ides k) = pos ides -ℤ pos k
place two_sixths ides SecondSixth = pos 0 -ℤ pos 5

-- the same in a month of a year
abbrev pub HasPlace : ℤ → ℕ → RomanName → Type 0
HasPlace year month name =
    IsPlaced (has_two_sixths year month) (day_of_ides month) (prior_length year month) (prior_ides month) name

-- the name of a day up to the Ides
abbrev pub name_within : ℕ → ℕ → RomanName
name_within ides day =
    if day == 1 then Kalends 1
    else if nat_le day (ides - 8) then Nones (ides - 8 + 1 - day)
    else Ides (ides + 1 - day)

-- the name of a day after the Ides, in February of a leap year or in another month of this length
abbrev pub name_after : Bool → ℕ → ℕ → RomanName
name_after leap_february length day =
    if leap_february then (if nat_le day 24 then Kalends (30 - day) else if day == 25 then SecondSixth else Kalends
    (31 - day))
    else Kalends (length + 2 - day)

-- the year, the month and the name of a Roman date
pub record RomanParts : Type 0 where
  pub year : ℤ
  pub month : ℕ
  pub name : RomanName

-- those of the Roman date of a Julian date
abbrev pub parts_on : ℤ → ℕ → ℕ → RomanParts
parts_on year month day =
    if nat_le day (day_of_ides month) then record
    { year = year; month = month; name = name_within (day_of_ides month) day }
    else record {
      year = year_of_next_month year month;
      month = next_month month;
      name = name_after ((month == 2) && is_julian_leap year) (month_length year month) day;
    }

-- those of a `RomanDate`
abbrev pub parts_of : RomanDate → RomanParts
parts_of date = record { year = date.year; month = date.month; name = date.name }
