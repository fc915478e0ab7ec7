-- Julian years in closed form.
use Rattle.std.proofs.Common.{◌≡◌, ◌==◌, ℕ, zero, suc, ◌+◌, ◌*◌, ◌/◌, ◌%◌, ◌≤◌, refl, ap, arith, ℤ, pos, negsuc, neg_ℤ}
use Rattle.std.proofs.Common.{◌+ℤ◌, ◌-ℤ◌, ◌*ℤ◌}
use Rattle.solar_calendars.specs.Remainder.{remainder}
use Rattle.day_numbers.proofs.RulesLemmas.{date_at_place, next_year, start_is}
use Rattle.solar_calendars.proofs.Common.{day_number_of, days_before_month, days_of_month, HasYear, int_div_euclid}
use Rattle.solar_calendars.proofs.Common.{is_julian_leap, IsBetween, IsDateOf, julian_rules, nat_tests, signed_arith}
use Rattle.solar_calendars.proofs.Common.{twelve_months, without_zero, year_length, year_start, years_before}

abbrev pub closed : ℤ → ℤ
closed y = pos 365 *ℤ years_before y +ℤ int_div_euclid (years_before y) (pos 4) -ℤ pos 1

-- every fourth year is a leap year, the first of them with three years before it
pub leap_by_years : (y : ℤ) → (remainder (years_before y) 4 == 3) ≡ is_julian_leap y
leap_by_years (pos n) = grind (arith, nat_tests, signed_arith)
leap_by_years (negsuc n) = refl

julian_next : (y : ℤ) → HasYear without_zero y
    → closed (next_year without_zero y) ≡ closed y +ℤ pos (year_length julian_rules y)
julian_next (pos zero) h = absurd h
julian_next (pos (suc n)) h = grind (arith, nat_tests, signed_arith)
julian_next (negsuc zero) h = refl
julian_next (negsuc (suc n)) h = grind (arith, nat_tests, signed_arith)

pub julian_start : (y : ℤ) → HasYear without_zero y → closed y ≡ year_start julian_rules y
julian_start y h = start_is without_zero _ _ closed refl julian_next y h

-- a fourth year is a leap year also where the years are counted from some day far back
pub leap_by_count : (y : ℤ) (k : ℕ) → pos k ≡ years_before y +ℤ pos 100_000 → (k % 4 == 3) ≡ is_julian_leap y
leap_by_count y k e = grind (arith, signed_arith, leap_by_years y)

-- so the place in its year, and the month and the day there, give the date of a day
pub julian_date : (n y : ℤ) (k m d : ℕ) → HasYear without_zero y → pos k ≡ pos 4 *ℤ n +ℤ pos 146_100_007
    → pos (k / 1461) ≡ years_before y +ℤ pos 100_000 → 1 ≤ d
    → d ≤ days_of_month (twelve_months (k / 1461 % 4 == 3)) m
    → days_before_month (twelve_months (k / 1461 % 4 == 3)) m + d ≡ k % 1461 / 4 + 1
    → IsDateOf julian_rules y m d × (day_number_of julian_rules y m d ≡ n)
julian_date n y k m d h e f low high sum =
    let leap = leap_by_count y (k / 1461) f in
    date_at_place julian_rules y n (year_start julian_rules y) m d (k % 1461 / 4) _ (ap twelve_months leap) h low high
    sum refl (omega (arith, signed_arith, e, f, julian_start y h))

pub before_near : (y : ℤ) → IsBetween (neg_ℤ (pos 99_999)) (pos 99_999) y
    → IsBetween (neg_ℤ (pos 100_000)) (pos 100_000) (years_before y)
before_near (pos n) h = omega (arith, signed_arith)
before_near (negsuc n) h = omega (arith, signed_arith)

-- the code's sum is the first day of the year
pub julian_sum : (y z : ℤ) (k : ℕ) → HasYear without_zero y → pos k ≡ years_before y +ℤ pos 100_000
    → z ≡ pos (1461 * k / 4) -ℤ pos 36_525_001 → z ≡ year_start julian_rules y
julian_sum y z k h e f = omega (arith, signed_arith, e, f, julian_start y h)
