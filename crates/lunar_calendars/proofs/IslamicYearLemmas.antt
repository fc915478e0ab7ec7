-- The days of Islamic years by one quotient.
use Rattle.std.proofs.Common.{◌≡◌, ℕ, zero, suc, ◌+◌, ◌*◌, ◌/◌, arith, unsigned_abs}
use Rattle.std.proofs.lemmas.Bool.Decides.{nat_tests}
use Rattle.day_numbers.specs.Rules.{days_of_years, total_days}
use Rattle.day_numbers.proofs.RulesLemmas.{years_zero, years_suc}
use Rattle.lunar_calendars.specs.Islamic.{months_of_year}

year_step : (year : ℕ) → total_days (months_of_year year) + (11 * year + 3) / 30 ≡ 354 + (11 * year + 14) / 30
year_step year = grind (arith, nat_tests)

pub islamic_days : (n : ℕ) → days_of_years (λ year. total_days (months_of_year (unsigned_abs year))) n
    ≡ 354 * n + (11 * n + 14) / 30
islamic_days zero = years_zero _
islamic_days (suc n) = grind (arith, years_suc, unsigned_abs, year_step, islamic_days n)
