-- The days of years of thirteen months in closed form.
use Rattle.std.proofs.Common.{◌≡◌, ℕ, zero, suc, ◌+◌, ◌*◌, ◌/◌, Bool, false, cond, arith, ℤ, pos}
use Rattle.day_numbers.specs.Rules.{days_of_years}
use Rattle.solar_calendars.specs.ThirteenMonths.{thirteen_months, is_third_of_four}
use Rattle.solar_calendars.specs.French.{is_french_leap}
use Rattle.day_numbers.proofs.RulesLemmas.{years_suc, years_zero}
use Rattle.solar_calendars.proofs.Common.{nat_tests, total_days}

-- the days of a year, by whether it is a leap year
abbrev pub length_by : (ℤ → Bool) → ℤ → ℕ
length_by is_leap y = total_days (thirteen_months (is_leap y))

pub length_is : (is_leap : ℤ → Bool) (n : ℕ) → length_by is_leap (pos n) ≡ 365 + cond (is_leap (pos n)) 1 0
length_is is_leap n = grind arith

third_of_four_step : (n : ℕ) → cond (is_third_of_four (pos n)) 1 0 + n / 4 ≡ suc n / 4
third_of_four_step n = grind (arith, nat_tests)

pub third_of_four_sum : (n : ℕ)
    → days_of_years (λ y. total_days (thirteen_months (is_third_of_four y))) n ≡ 365 * n + (n + 1) / 4
third_of_four_sum zero = years_zero _
third_of_four_sum (suc n) = grind (arith, years_suc, length_by, length_is, third_of_four_step, third_of_four_sum n)

pub never_sum : (n : ℕ) → days_of_years (λ y. total_days (thirteen_months false)) n ≡ 365 * n
never_sum zero = years_zero _
never_sum (suc n) = omega (arith, years_suc (length_by (λ y. false)) n, never_sum n)

-- ---- the days of French years in closed form
-- a leap day goes with a quotient that steps
leap_step : (n : ℕ) → cond (is_french_leap (pos (suc n))) 1 0 + n / 4 + suc n / 100 + n / 400 + suc n / 4_000
    ≡ suc n / 4 + n / 100 + suc n / 400 + n / 4_000
leap_step n = grind (arith, nat_tests)

pub french_sum : (n : ℕ) → days_of_years (λ y. total_days (thirteen_months (is_french_leap y))) n + n / 100 + n / 4_000
    ≡ 365 * n + n / 4 + n / 400
french_sum zero = omega (arith, years_zero (length_by is_french_leap))
french_sum (suc n) =
    omega (arith, years_suc (length_by is_french_leap) n, length_is is_french_leap (suc n), leap_step n, french_sum n)
