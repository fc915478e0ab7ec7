-- The months of the Hebrew years before a year by one quotient.
use Rattle.std.proofs.Common.{◌≡◌, ℕ, zero, suc, ◌+◌, ◌-◌, ◌*◌, ◌/◌, refl, arith, map, add-one, sum}
use Rattle.std.specs.List.{range_with_len}
use Rattle.std.proofs.lemmas.List.FromFn.{sum_by-map-range_with_len_more}
use Rattle.std.proofs.lemmas.Bool.Decides.{nat_tests}
use Rattle.lunar_calendars.specs.Hebrew.{month_count, months_before}

months_in : ℕ → ℕ
months_in n = sum (map month_count (range_with_len 1 n))

months_in_suc : (n : ℕ) → months_in (suc n) ≡ months_in n + month_count (suc n)
unfolding months_in
months_in_suc n = rw add-one at (sum_by-map-range_with_len_more (λ x. x) month_count 1 n (suc n) (omega arith))

count_step : (n : ℕ) → month_count (suc n) + (235 * n + 1) / 19 ≡ (235 * suc n + 1) / 19
count_step n = grind (arith, nat_tests)

months_in_closed : (n : ℕ) → months_in n ≡ (235 * n + 1) / 19
unfolding months_in
months_in_closed zero = refl
months_in_closed (suc n) = omega (arith, months_in_suc n, months_in_closed n, count_step n)

pub months_closed : (n : ℕ) → months_before (suc n) ≡ (235 * n + 1) / 19
unfolding months_before months_in
months_closed n = let same : suc n - 1 ≡ n = omega arith in rw same (months_in_closed n)
