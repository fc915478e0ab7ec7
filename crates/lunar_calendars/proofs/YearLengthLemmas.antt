-- The lengths of Hebrew years.
use Rattle.std.proofs.Common.{◌≡◌, ℕ, zero, suc, ◌+◌, ◌-◌, ◌*◌, ◌/◌, ◌%◌, ◌≤◌, ◌<◌, Bool, true, false, if◌then◌else◌}
use Rattle.std.proofs.Common.{leb, refl, sym, ap, ◌∙◌, arith, ℤ, pos, ◌+ℤ◌, ◌-ℤ◌, ◌<ℤ◌, ◌≤ℤ◌, unsigned_abs, ◌⊎◌, inl}
use Rattle.std.proofs.Common.{inr, Contains}
use Rattle.std.proofs.lemmas.Bool.Decides.{nat_tests}
use mir.Val.{bool_byte}
use Rattle.day_numbers.specs.Rules.{total_days, days_of_years, start_of_year, year_start, days_before_month}
use Rattle.day_numbers.specs.Rules.{day_number_of}
use Rattle.day_numbers.proofs.RulesLemmas.{years_zero, years_suc}
use Rattle.day_numbers.proofs.SignedArithmeticLemmas.{signed_arith}
use Rattle.lunar_calendars.specs.Hebrew.{is_leap_year, epoch, new_year_of, days_in_year, months_by_length}
use Rattle.lunar_calendars.specs.private.Hebrew.{IsYearLength}
use Rattle.lunar_calendars.specs.Hebrew.{months_of_year, year_lengths, hebrew_rules}
use Rattle.lunar_calendars.specs.private.HebrewOpenings.{IsOpening, days_from_monday}
use Rattle.lunar_calendars.proofs.NewYearLemmas.{opens_by_week, parts_after}
use Rattle.lunar_calendars.proofs.NewYearLemmas.{new_year_after, new_year_is, first_new_year, new_year_bounds}

-- n lies from low to high above m
pub record IsFrom (low high m n : ℕ) : Type 0 where
  pub least : m + low ≤ n
  pub most : n ≤ m + high

-- from a new year to the next, by the parts from noon of a Saturday to the molad of each
year_by_weeks : (leap after_leap next_leap : Bool) (x y : ℕ) → y ≡ x + 765_433 * (if leap then 13 else 12)
    → IsFrom (if leap then 383 else 353) (if leap then 385 else 355)
    (7 * (x / 181_440) + days_from_monday leap after_leap (x % 181_440))
    (7 * (y / 181_440) + days_from_monday next_leap leap (y % 181_440))
year_by_weeks false after_leap next_leap x y e = grind (arith, signed_arith, nat_tests)
year_by_weeks true after_leap next_leap x y e = grind (arith, signed_arith, nat_tests)

-- the parts from a molad to the next year's
parts_step : (n : ℕ) → parts_after (suc n) ≡ parts_after n + 765_433 * (if is_leap_year (suc n) then 13 else 12)
parts_step n = grind (arith, nat_tests)

by_week : (n : ℕ) → 7 * ((32_400 + parts_after n) / 181_440)
    + days_from_monday (is_leap_year (suc n)) (is_leap_year n) ((32_400 + parts_after n) % 181_440) ≡ new_year_after n
unfolding new_year_after
by_week n = opens_by_week (is_leap_year (suc n)) (is_leap_year n) (parts_after n)

year_grows : (n : ℕ) → IsFrom (if is_leap_year (suc n) then 383 else 353) (if is_leap_year (suc n) then 385 else 355)
    (new_year_after n) (new_year_after (suc n))
year_grows n =
    rw (← by_week n, ← by_week (suc n)) (year_by_weeks (is_leap_year (suc n)) (is_leap_year n)
    (is_leap_year (suc (suc n))) (32_400 + parts_after n) (32_400 + parts_after (suc n)) (omega (arith, parts_step n)))

-- so the days from a new year to the next are a difference of whole numbers
days_more : (n : ℕ) → new_year_after n + days_in_year (suc n) ≡ new_year_after (suc n)
days_more n =
    let next : suc n + 1 ≡ suc (suc n) = omega arith in
    let days : new_year_of (suc (suc n)) -ℤ new_year_of (suc n) ≡ pos (new_year_after (suc n) - new_year_after n) =
    omega (arith, signed_arith, (year_grows n).least, new_year_is n, new_year_is (suc n)) in
    rw (next, days) (omega (arith, (year_grows n).least))

pub length_of_year : (year : ℕ) → 1 ≤ year → IsYearLength (is_leap_year year) (days_in_year year)
length_of_year zero low = absurd (omega arith)
length_of_year (suc n) low =
    (omega (arith, (year_grows n).least, days_more n), omega (arith, (year_grows n).most, days_more n))

-- the months of a year fill it
pub total_by : (leap : Bool) (days : ℕ) → IsYearLength leap days → total_days (months_by_length leap days) ≡ days
total_by false days h = grind (arith, nat_tests)
total_by true days h = grind (arith, nat_tests)

pub total : (year : ℕ) → 1 ≤ year → total_days (months_of_year year) ≡ days_in_year year
total year low = total_by (is_leap_year year) (days_in_year year) (length_of_year year low)

-- so the sum of the lengths of the years before is the new year by the postponements
days_before : (n : ℕ) → days_of_years (λ year. total_days (months_of_year (unsigned_abs year))) n ≡ new_year_after n
days_before zero = years_zero _ ∙ sym first_new_year
days_before (suc n) = grind (arith, signed_arith, years_suc, unsigned_abs, total, days_more, days_before n)

-- the same facts of a year from 1 on
pub year_start_is : (year : ℕ) → 1 ≤ year → new_year_of year ≡ year_start hebrew_rules (pos year)
unfolding start_of_year
year_start_is zero low = absurd (omega arith)
year_start_is (suc n) low = new_year_is n ∙ ap (λ days. epoch +ℤ pos days) (sym (days_before n))

-- and a date's number is that of its day, by the new year and the place in the year
pub day_at : (year day place m d : ℕ) (n : ℤ) → 1 ≤ year → epoch +ℤ pos day ≡ new_year_of year
    → days_before_month (months_of_year year) m + d ≡ place + 1 → n ≡ epoch +ℤ pos (day + place)
    → day_number_of hebrew_rules (pos year) m d ≡ n
day_at year day place m d n low opens sum e =
    omega (arith, signed_arith, year_start_is year low, opens, e)

pub end_of_year : (year : ℕ) → 1 ≤ year → new_year_of (year + 1) ≡ new_year_of year +ℤ pos (days_in_year year)
end_of_year zero low = absurd (omega arith)
end_of_year (suc n) low =
    let next : suc n + 1 ≡ suc (suc n) = omega arith in
    let days = days_more n in
    rw next (omega (arith, signed_arith, new_year_is n, new_year_is (suc n), rw next at days))

-- the year of a day is this estimate or the one before
pub estimate : (days year : ℕ) → year ≡ (days + 29) * 98_496 / 35_975_351 + 1
    → ((epoch +ℤ pos days) <ℤ new_year_of (year + 1)) × (2 ≤ year → new_year_of (year - 1) ≤ℤ (epoch +ℤ pos days))
estimate days zero e = absurd (omega (arith, e))
estimate days (suc zero) e =
    (omega (arith, signed_arith, e, new_year_is 1, new_year_bounds 1), λ h. absurd (omega (arith, h)))
estimate days (suc (suc n)) e =
    let next : suc (suc n) + 1 ≡ suc (suc (suc n)) = omega arith in
    let before : suc (suc n) - 1 ≡ suc n = omega arith in
    rw (next, before) (
      omega (arith, signed_arith, e, new_year_is (suc (suc n)), new_year_bounds (suc (suc n))),
      λ h.
          omega (arith, signed_arith, e, new_year_is n, new_year_bounds n),
    )

-- one week more, where the parts that the weeks leave are those of a week or more
one_more : (more parts : ℕ) → more ≡ bool_byte (leb 181_440 parts) → parts < 362_880
    → (more * 181_440 ≤ parts) × (parts < more * 181_440 + 181_440)
one_more more parts e h = grind (arith, nat_tests)

-- so the code's sum is the next new year
pub days_by : (year day monday part time weeks rest more e r : ℕ) → 1 ≤ year → IsOpening year day monday part time
    → 181_440 * weeks + rest ≡ 765_433 * (if is_leap_year year then 13 else 12) → rest < 181_440
    → more ≡ bool_byte (leb 181_440 (time + rest))
    → e ≡ days_from_monday (is_leap_year (year + 1)) (is_leap_year year) (time + rest - more * 181_440)
    → r ≡ monday + 7 * (weeks + more) + e → r ≡ day + days_in_year year
days_by zero day monday part time weeks rest more e r low o w h m q k = absurd (omega arith)
days_by (suc n) day monday part time weeks rest more e r low o w h m q k =
    let after : suc n + 1 ≡ suc (suc n) = omega arith in
    let opens : day ≡ new_year_after n = omega (arith, signed_arith, o.0, new_year_is n) in
    let step = parts_step n in
    let week = one_more more (time + rest) m (omega (arith, o.3, h)) in
    let next_time : time + rest - more * 181_440 ≡ (32_400 + parts_after (suc n)) % 181_440 =
    omega (arith, step, o.3, w, week) in
    omega (arith, opens, o.1, rw (after, next_time) at q, k, by_week (suc n), days_more n)

pub days_at_most : (year : ℕ) → 1 ≤ year → days_in_year year ≤ 385
days_at_most year low = grind (arith, nat_tests, length_of_year year low)

-- a day before a new year is not before year 1
pub after_year_one : (year day n : ℕ) → 1 ≤ year → epoch +ℤ pos n ≡ new_year_of year → day < n → 2 ≤ year
after_year_one zero day n low e h = absurd (omega arith)
after_year_one (suc zero) day n low e h = absurd (omega (arith, signed_arith, e, h, new_year_is 0, first_new_year))
after_year_one (suc (suc year)) day n low e h = omega arith

-- one of the six lengths
pub three : (low days : ℕ) → low ≤ days → days ≤ low + 2 → (days ≡ low) ⊎ ((days ≡ low + 1) ⊎ (days ≡ low + 2))
three low days h k = grind arith

one_of_three : (low days : ℕ) (P : ℕ → Type 0) → low ≤ days → days ≤ low + 2 → P low → P (low + 1) → P (low + 2)
    → P days
one_of_three low days P h k a b c =
    elim (three low days h k) [ inl e ↦ rw e a | inr e ↦ elim e [ inl f ↦ rw f b | inr f ↦ rw f c ] ]

pub one_of_six : (leap : Bool) (days : ℕ) → IsYearLength leap days → Contains year_lengths days
one_of_six false days h =
    one_of_three 353 days (Contains year_lengths) h.0 h.1 (0, omega arith, refl) (1, omega arith, refl)
    (2, omega arith, refl)
one_of_six true days h =
    one_of_three 383 days (Contains year_lengths) h.0 h.1 (3, omega arith, refl) (4, omega arith, refl)
    (5, omega arith, refl)
