-- Gregorian years in closed form, and jiff's dates by the rules.
use Rattle.std.proofs.Common.{◌≡◌, ◌↔◌, ℕ, zero, suc, ◌+◌, ◌-◌, ◌*◌, ◌/◌, ◌≤◌, ◌<◌, Bool, refl, cond, arith, ℤ, pos}
use Rattle.std.proofs.Common.{negsuc, neg_ℤ, ◌+ℤ◌, ◌-ℤ◌, ◌*ℤ◌, ◌≤ℤ◌}
use Rattle.jiff_core.specs.Calendar.{is_leap_year, days_in_year, days_in_month, days_of_months, day_count}
use Rattle.jiff_core.specs.Calendar.{days_from_civil, IsDate}
use Rattle.jiff_core.specs.declared.civil.date.Date.{Date}
use Rattle.jiff_core.specs.Date.{epoch_day}
use Rattle.jiff_core.proofs.DateLemmas.{epoch_day_range}
use Rattle.jiff_core.proofs.CalendarLemmas.{day_count-next_year, days_from_civil-day_count, days_of_months_table}
use Rattle.jiff_core.proofs.CalendarLemmas.{day_count-day_of_year}
use Rattle.jiff_core.proofs.MarchLemmas.{day_count-early}
use Rattle.day_numbers.proofs.RulesLemmas.{any_year, next_is, next_year, start_is, start_is_from, start_next}
use Rattle.solar_calendars.proofs.Common.{day_number_of, days_before_month, days_of_month, gregorian_rules, HasYear}
use Rattle.solar_calendars.proofs.Common.{int_div_euclid, is_gregorian_leap, IsBetween, IsDateOf, IsDayNumber}
use Rattle.solar_calendars.proofs.Common.{nat_tests, signed_arith, twelve_months, with_zero, year_length, year_start}

abbrev pub closed : ℤ → ℤ
closed y =
    pos 365 *ℤ (y -ℤ pos 1) +ℤ int_div_euclid (y -ℤ pos 1) (pos 4) -ℤ int_div_euclid (y -ℤ pos 1) (pos 100)
    +ℤ int_div_euclid (y -ℤ pos 1) (pos 400) +ℤ pos 1

pub length_is : (y : ℤ) → year_length gregorian_rules y ≡ 365 + cond (is_gregorian_leap y) 1 0
length_is y = grind arith

pub year_short : (y : ℤ) → year_length gregorian_rules y ≤ 366
year_short y = grind arith

-- a leap day goes with a quotient that steps
leap_early : (m : ℕ) → cond (is_gregorian_leap (negsuc m)) 1 0 + m / 4 + suc m / 100 + m / 400
    ≡ suc m / 4 + m / 100 + suc m / 400
leap_early m = grind (arith, nat_tests)

leap_late : (m : ℕ) → cond (is_gregorian_leap (pos (suc m))) 1 0 + m / 4 + suc m / 100 + m / 400
    ≡ suc m / 4 + m / 100 + suc m / 400
leap_late m = grind (arith, nat_tests)

gregorian_next : (y : ℤ) → HasYear with_zero y
    → closed (next_year with_zero y) ≡ closed y +ℤ pos (year_length gregorian_rules y)
gregorian_next (pos zero) h = refl
gregorian_next (pos (suc n)) h = omega (arith, signed_arith, length_is (pos (suc n)), leap_late n)
gregorian_next (negsuc zero) h = refl
gregorian_next (negsuc (suc n)) h = omega (arith, signed_arith, length_is (negsuc (suc n)), leap_early (suc n))

pub gregorian_start : (y : ℤ) → HasYear with_zero y → closed y ≡ year_start gregorian_rules y
gregorian_start y h = start_is with_zero _ _ closed refl gregorian_next y h

-- a year begins after the days of the one before
pub january : (y : ℤ) → year_start gregorian_rules (y +ℤ pos 1)
    ≡ year_start gregorian_rules y +ℤ pos (365 + cond (is_gregorian_leap y) 1 0)
january y = rw (← next_is y, ← length_is y) (start_next with_zero _ _ y (any_year y))

-- the year and the place in it of a day, counted from 1 January -9999
pub in_years : (y n : ℤ) (days years place : ℕ) → y ≡ pos years -ℤ pos 9_999 → n ≡ pos days -ℤ pos 3_652_424
    → 365 * years + years / 4 + years / 400 + place ≡ days + years / 100
    → days + (years + 1) / 100 < 365 * (years + 1) + (years + 1) / 4 + (years + 1) / 400
    → (year_start gregorian_rules y +ℤ pos place ≡ n) × (place < year_length gregorian_rules y)
in_years y n days years place e f sum inside =
    let start = gregorian_start y (any_year y) in
    let next = gregorian_start (y +ℤ pos 1) (any_year (y +ℤ pos 1)) in (
      omega (arith, signed_arith, start, e, f),
      omega (arith, signed_arith, start, next, january y, length_is y, e, inside),
    )

-- jiff's leap years are the rules'
pub leap_same : (y : ℤ) → is_gregorian_leap y ≡ is_leap_year y
leap_same (pos n) = grind (arith, nat_tests)
leap_same (negsuc n) = grind (arith, nat_tests)

leap_cond : (y : ℤ) → days_in_year y ≡ 365 + cond (is_gregorian_leap y) 1 0
leap_cond y = rw (leap_same y) (grind arith)

jiff_one : day_count (pos 1) 1 1 ≡ 3_652_791
jiff_one = day_count-early (pos 1) 10000 1 1 refl (omega arith) (omega arith) (omega arith)

-- jiff's day number of 1 January, as this library counts
abbrev jiff_start : ℤ → ℤ
jiff_start y = days_from_civil y 1 1 +ℤ pos 719_163

jiff_next : (y : ℤ) → negsuc 9999 ≤ℤ y
    → jiff_start (y +ℤ pos 1) ≡ jiff_start y +ℤ pos (year_length gregorian_rules y)
jiff_next y low =
    omega (
      arith,
      signed_arith,
      length_is y,
      leap_cond y,
      days_from_civil-day_count,
      day_count-next_year y (y +ℤ pos 1) low refl,
    )

pub jiff_start_is : (y : ℤ) → negsuc 9999 ≤ℤ y → jiff_start y ≡ year_start gregorian_rules y
jiff_start_is y low =
    start_is_from _ _ jiff_start 9999 (omega (arith, signed_arith, days_from_civil-day_count, jiff_one))
    jiff_next y low

-- the months are jiff's
month_days : (y : ℤ) (m : ℕ) → 1 ≤ m → m ≤ 12
    → days_of_month (twelve_months (is_gregorian_leap y)) m ≡ days_in_month y m
month_days y m low high = rw (leap_same y) (grind (arith, nat_tests))

month_before : (y : ℤ) (m : ℕ) → 1 ≤ m → m ≤ 12
    → days_before_month (twelve_months (is_gregorian_leap y)) m ≡ days_of_months y (m - 1)
month_before y m low high = rw (leap_same y) (grind (arith, nat_tests, days_of_months_table y (m - 1) (omega arith)))

-- the leap days of so many years, and the first day of the year after them
pub leap_days_are : (n a : ℤ) → a ≡ int_div_euclid n (pos 4) -ℤ int_div_euclid n (pos 100) +ℤ int_div_euclid n (pos 400)
    → year_start gregorian_rules (n +ℤ pos 1) ≡ pos 365 *ℤ n +ℤ a +ℤ pos 1
leap_days_are n a e =
    let same : n +ℤ pos 1 -ℤ pos 1 ≡ n = omega (arith, signed_arith) in
    rw (← gregorian_start (n +ℤ pos 1) (any_year (n +ℤ pos 1)), same) (omega (arith, signed_arith, e))

pub first_is : (y n a z : ℤ) → n ≡ y -ℤ pos 1 → year_start gregorian_rules (n +ℤ pos 1) ≡ pos 365 *ℤ n +ℤ a +ℤ pos 1
    → z ≡ pos 365 *ℤ n +ℤ a +ℤ pos 1 → z ≡ year_start gregorian_rules y
first_is y n a z e p s = grind (arith, signed_arith)

-- a month of the rules is one from 1 to 12
pub month_in : (leap : Bool) (m d : ℕ) → 1 ≤ d → d ≤ days_of_month (twelve_months leap) m → (1 ≤ m) × (m ≤ 12)
month_in leap m d a b = grind (arith, nat_tests)

-- jiff's dates are the rules' dates
pub jiff_valid : (y : ℤ) (m d : ℕ) → IsBetween (neg_ℤ (pos 9_999)) (pos 9_999) y
    → IsDate y (pos m) (pos d) ↔ IsDateOf gregorian_rules y m d
jiff_valid y m d near = (
  λ h. let low : (1 ≤ m) × (m ≤ 12) = omega (arith, signed_arith, h.1) in
      (any_year y, omega (arith, signed_arith, h.2), omega (arith, signed_arith, h.2, month_days y m low.0 low.1)),
  λ h. let low = month_in (is_gregorian_leap y) m d h.1 h.2 in
      (near, omega (arith, signed_arith, low), omega (arith, signed_arith, h.1, h.2, month_days y m low.0 low.1)),
)

-- and jiff's day numbers are theirs, counted from another day
pub jiff_number : (y : ℤ) (m d : ℕ) → negsuc 9999 ≤ℤ y → 1 ≤ m → m ≤ 12 → 1 ≤ d
    → days_from_civil y m d +ℤ pos 719_163 ≡ day_number_of gregorian_rules y m d
jiff_number y m d low a b first =
    omega (
      arith,
      signed_arith,
      days_from_civil-day_count,
      day_count-day_of_year y m d first,
      jiff_start_is y low,
      month_before y m a b,
    )

-- the same of a date
pub jiff_day : (d : Date) → epoch_day d +ℤ pos 719_163 ≡ day_number_of gregorian_rules d.year d.month d.day
jiff_day d =
    jiff_number d.year d.month d.day (omega (arith, signed_arith, d.year_in)) d.month_in.0 d.month_in.1 d.day_in.0

pub jiff_range : (d : Date) → IsDayNumber (day_number_of gregorian_rules d.year d.month d.day)
jiff_range d = omega (arith, signed_arith, jiff_day d, epoch_day_range d)

-- each date of jiff is one of the rules
pub jiff_date_valid : (d : Date) → IsDateOf gregorian_rules d.year d.month d.day
jiff_date_valid d =
    (jiff_valid d.year d.month d.day d.year_in).0
    (d.year_in, omega (arith, signed_arith, d.month_in), omega (arith, signed_arith, d.day_in))
