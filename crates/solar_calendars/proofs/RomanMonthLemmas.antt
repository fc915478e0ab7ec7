-- Months one after the other, and their principal days, the Kalends, Nones and Ides.
use Rattle.std.proofs.Common.{inl, inr, ◌≡◌, ℕ, zero, suc, ◌+◌, ◌-◌, ◌≤◌, Bool, true, false, refl, subst, ap, arith, ℤ}
use Rattle.std.proofs.Common.{pos, negsuc, ◌+ℤ◌, ◌-ℤ◌, List, [], ◌∷◌, if◌then◌else◌, ◌==◌, ◌&&◌, ne_eqb, ◌↔◌, ◌<◌, ◌≤ℤ◌}
use Rattle.std.proofs.Common.{◌<ℤ◌, unsigned_abs, IsTrue}
use Rattle.solar_calendars.specs.Roman.{roman_day_number, IsRomanDate, day_of_ides, has_two_sixths, principal_day}
use Rattle.solar_calendars.specs.private.RomanPlaces.{kalends, month_length, year_before, month_before}
use Rattle.solar_calendars.specs.private.RomanPlaces.{year_of_month_before}
use Rattle.solar_calendars.specs.private.RomanPlaces.{nones, ides, preceding_day, prior_length, prior_ides}
use Rattle.day_numbers.proofs.RulesLemmas.{date_unique, next_year, start_next}
use Rattle.solar_calendars.proofs.Common.{by_lt_z, cases_eq, day_number_of, days_before_month, days_of_month, HasYear}
use Rattle.solar_calendars.proofs.Common.{Ides, is_julian_leap, IsDateOf, julian_rules, Kalends, nat_tests, Nones}
use Rattle.solar_calendars.proofs.Common.{numbered_from, RomanName, SecondSixth, signed_arith, total_days}
use Rattle.solar_calendars.proofs.Common.{twelve_months, without_zero, year_length, year_start}

first_before : (ds : List ℕ) (k : ℕ) → days_before_month (numbered_from k ds) k ≡ 0
first_before [] k = refl
first_before (d ∷ ds) k = grind (arith, nat_tests)

-- each month runs after the one of the number before
follow : (ds : List ℕ) (k j : ℕ) → k ≤ j
    → days_before_month (numbered_from k ds) (suc j) ≡ days_before_month (numbered_from k ds) j + days_of_month
    (numbered_from k ds) j
follow [] k j h = omega arith
follow (d ∷ ds) k j h = grind (arith, nat_tests, first_before ds (suc k), follow ds (suc k) j)

abbrev lengths : Bool → List ℕ
lengths leap = 31 ∷ (if leap then 29 else 28) ∷ 31 ∷ 30 ∷ 31 ∷ 30 ∷ 31 ∷ 31 ∷ 30 ∷ 31 ∷ 30 ∷ 31 ∷ []

year_length_is : (leap : Bool) → total_days (twelve_months leap) ≡ days_before_month (twelve_months leap) 12 + 31
year_length_is true = refl
year_length_is false = refl

-- the months' lengths, by their number
pub months_small : (leap : Bool) (m : ℕ) → 1 ≤ m → m ≤ 12
    → (28 ≤ days_of_month (twelve_months leap) m) × (days_of_month (twelve_months leap) m ≤ 31)
months_small leap m a b = grind (arith, nat_tests)

pub months_follow : (leap : Bool) (m : ℕ) → 2 ≤ m → m ≤ 12
    → days_before_month (twelve_months leap) m ≡ days_before_month (twelve_months leap) (m - 1) + days_of_month
    (twelve_months leap) (m - 1)
months_follow leap m a b = grind (arith, signed_arith, follow (lengths leap) 1 (m - 1) (omega arith))

pub one_less : (n : ℕ) → pos (suc (suc n)) -ℤ pos 1 ≡ pos (suc n)
one_less n = omega (arith, signed_arith)

pub one_further : (n : ℕ) → negsuc n -ℤ pos 1 ≡ negsuc (suc n)
one_further n = omega (arith, signed_arith)

before_is : (y : ℤ) → HasYear without_zero y
    → HasYear without_zero (year_before y) × (next_year without_zero (year_before y) ≡ y)
before_is (pos zero) h = absurd h
before_is (pos (suc zero)) h = (tt, refl)
before_is (pos (suc (suc n))) h = rw (one_less n) (tt, refl)
before_is (negsuc n) h = (tt, ap (next_year without_zero) (one_further n))

-- January follows December
january : (y : ℤ) → HasYear without_zero y → kalends y 1 ≡ kalends (year_before y) 12 +ℤ pos 31
january y h =
    let b = before_is y h in
    let start : year_start julian_rules y ≡ year_start julian_rules (year_before y) +ℤ pos
    (year_length julian_rules (year_before y)) =
    subst (λ z. year_start julian_rules z ≡ year_start julian_rules (year_before y) +ℤ pos
    (year_length julian_rules (year_before y))) b.1
    (start_next without_zero _ (year_length julian_rules) (year_before y) b.0) in
    omega (arith, signed_arith, start, year_length_is (is_julian_leap (year_before y)))

-- the Ides, in bounds
pub ides_small : (m : ℕ) → (13 ≤ day_of_ides m) × (day_of_ides m ≤ 15)
ides_small m = grind (arith, nat_tests)

-- a month of a year that the calendar has
abbrev pub IsMonth : ℤ → ℕ → Type 0
IsMonth y m = HasYear without_zero y × (1 ≤ m) × (m ≤ 12)

-- the month before a month: how far the Kalends lie apart, and which of the two has the leap day
pub record Follows (y : ℤ) (m : ℕ) (py : ℤ) (pm : ℕ) : Type 0 where
  pub is_month : IsMonth py pm
  pub starts : kalends y m ≡ kalends py pm +ℤ pos (month_length py pm)
  pub leaps : has_two_sixths y m ≡ ((pm == 2) && is_julian_leap py)

pub follows : (y : ℤ) (m : ℕ) → HasYear without_zero y → 1 ≤ m → m ≤ 12
    → Follows y m (year_of_month_before y m) (month_before m)
follows y m h a b =
    elim (cases_eq m 1) [
      | inl e ↦ rw e (record {
        is_month = ((before_is y h).0, omega arith, omega arith);
        starts = january y h;
        leaps = refl;
      })
      | inr n ↦ rw (ne_eqb m 1 n) (record {
        is_month = (h, omega arith, omega arith);
        starts = omega (arith, signed_arith, months_follow (is_julian_leap y) m (omega arith) b);
        leaps = grind (arith, nat_tests);
      })
    ]

-- ---- principal days
-- the Kalends of a month, by the Ides of the month before
pub ides_are : (y : ℤ) (m : ℕ) → HasYear without_zero y → 1 ≤ m → m ≤ 12
    → kalends y m ≡ ides (year_of_month_before y m) (month_before m) +ℤ pos (prior_length y m + 1 - prior_ides m)
ides_are y m h a b =
    let f = follows y m h a b in
    omega (
      arith,
      signed_arith,
      f.starts,
      ides_small (month_before m),
      months_small (is_julian_leap (year_of_month_before y m)) (month_before m) f.is_month.1 f.is_month.2,
    )

-- the month before is longer than its Ides are far
pub small_prior : (y : ℤ) (m : ℕ) → HasYear without_zero y → 1 ≤ m → m ≤ 12
    → (1 ≤ prior_length y m + 1 - prior_ides m) × (prior_ides m + 13 ≤ prior_length y m) × (13 ≤ prior_ides m)
    × (prior_length y m ≤ 31)
small_prior y m h a b = grind (arith, signed_arith, follows, months_small, ides_small)

-- the day of the month of a principal day
abbrev pub day_in_month : ℕ → RomanName → ℕ
day_in_month m (Nones k) = day_of_ides m - 8
day_in_month m (Ides k) = day_of_ides m
day_in_month m name = 1

pub principal_is : (y : ℤ) (m : ℕ) (name : RomanName) → IsMonth y m → IsDateOf julian_rules y m (day_in_month m name)
    × (principal_day y m name ≡ day_number_of julian_rules y m (day_in_month m name))
principal_is y m SecondSixth h =
    ((h.0, omega arith, omega (arith, months_small (is_julian_leap y) m h.1 h.2)), refl)
principal_is y m name h =
    ((h.0, omega (arith, ides_small m), omega (arith, ides_small m, months_small (is_julian_leap y) m h.1 h.2)), refl)

abs_is : (z : ℤ) → pos 0 ≤ℤ z → pos (unsigned_abs z) ≡ z
abs_is (pos n) h = refl
abs_is (negsuc n) h = absurd (omega (arith, signed_arith))

-- a principal day among the days of a month is one of that month
of_month : (y z : ℤ) (m k : ℕ) (other : RomanName) → IsMonth y m → IsMonth z k
    → kalends y m ≤ℤ principal_day z k other
    → principal_day z k other <ℤ (kalends y m +ℤ pos (month_length y m))
    → principal_day z k other ≡ principal_day y m other
of_month y z m k other h g low high =
    let p = principal_is z k other g in
    let far = unsigned_abs (principal_day z k other -ℤ kalends y m) in
    let far_is : pos far ≡ principal_day z k other -ℤ kalends y m =
    abs_is (principal_day z k other -ℤ kalends y m) (omega (arith, signed_arith)) in
    let less : far < month_length y m = omega (arith, signed_arith, far_is) in
    let same = date_unique julian_rules y z m k (suc far) (day_in_month k other) (h.0, omega arith, omega (arith, less))
    p.0 (omega (arith, signed_arith, far_is, p.1)) in
    rw (← same.0, ← same.1) refl

-- the principal days of a month follow each other
after_kalends : (y : ℤ) (m : ℕ) (x : RomanName) → kalends y m <ℤ principal_day y m x
    → nones y m ≤ℤ principal_day y m x
after_kalends y m SecondSixth lt = omega (arith, signed_arith)
after_kalends y m x lt = omega (arith, signed_arith)

after_nones : (y : ℤ) (m : ℕ) (x : RomanName) → nones y m <ℤ principal_day y m x → ides y m ≤ℤ principal_day y m x
after_nones y m SecondSixth lt = omega (arith, signed_arith, ides_small m)
after_nones y m x lt = omega (arith, signed_arith, ides_small m)

up_to_ides : (y : ℤ) (m : ℕ) (x : RomanName) → principal_day y m x ≤ℤ ides y m
up_to_ides y m SecondSixth = omega (arith, signed_arith, ides_small m)
up_to_ides y m x = omega (arith, signed_arith, ides_small m)

after_ides : (y z : ℤ) (m k : ℕ) (x : RomanName) → IsMonth y m → IsMonth z k
    → ides (year_of_month_before y m) (month_before m) <ℤ principal_day z k x → kalends y m ≤ℤ principal_day z k x
after_ides y z m k x h g lt =
    let f = follows y m h.0 h.1 h.2 in
    by_lt_z (principal_day z k x) (kalends y m)
    (λ less. absurd (omega (
      arith,
      signed_arith,
      of_month (year_of_month_before y m) z (month_before m) k x f.is_month g
          (omega (arith, signed_arith, ides_small (month_before m)))
          (omega (arith, signed_arith, f.starts)),
      up_to_ides (year_of_month_before y m) (month_before m) x,
    )))
    (λ ge. ge)

-- no principal day lies between that of a name and the one before it
none_between : (y z : ℤ) (m k : ℕ) (name x : RomanName) → IsMonth y m → IsMonth z k
    → preceding_day y m name <ℤ principal_day z k x → principal_day y m name ≤ℤ principal_day z k x
none_between y z m k (Nones c) x h g lt =
    by_lt_z (principal_day z k x) (nones y m)
    (λ less.
    let same = of_month y z m k x h g (omega (arith, signed_arith))
    (omega (arith, signed_arith, ides_small m, months_small (is_julian_leap y) m h.1 h.2)) in
    absurd (omega (arith, signed_arith, same, after_kalends y m x (rw same at lt))))
    (λ ge. ge)
none_between y z m k (Ides c) x h g lt =
    by_lt_z (principal_day z k x) (ides y m)
    (λ less.
    let same = of_month y z m k x h g (omega (arith, signed_arith, ides_small m))
    (omega (arith, signed_arith, ides_small m, months_small (is_julian_leap y) m h.1 h.2)) in
    absurd (omega (arith, signed_arith, same, after_nones y m x (rw same at lt))))
    (λ ge. ge)
none_between y z m k name x h g lt = after_ides y z m k x h g lt

-- the principal day before that of a name is one, and lies before it
preceding_is : (y : ℤ) (m : ℕ) (name : RomanName) → IsMonth y m
    → (z : ℤ) × (k : ℕ) × (x : RomanName) × IsMonth z k × (preceding_day y m name ≡ principal_day z k x)
preceding_is y m (Nones c) h = (y, m, Kalends 1, h, refl)
preceding_is y m (Ides c) h = (y, m, Nones 1, h, refl)
preceding_is y m name h = (_, _, Ides 1, (follows y m h.0 h.1 h.2).is_month, refl)

precedes : (y : ℤ) (m : ℕ) (name : RomanName) → IsMonth y m → preceding_day y m name <ℤ principal_day y m name
precedes y m (Nones c) h = omega (arith, signed_arith, ides_small m)
precedes y m (Ides c) h = omega (arith, signed_arith, ides_small m)
precedes y m name h = omega (arith, signed_arith, ides_are y m h.0 h.1 h.2, (small_prior y m h.0 h.1 h.2).0)

-- a name is valid where its day lies behind the principal day before that of the name, and up to this
pub valid_is : (y : ℤ) (m : ℕ) (name : RomanName) → IsMonth y m
    → IsRomanDate y m name ↔ ((name ≡ SecondSixth → IsTrue (has_two_sixths y m))
    × (preceding_day y m name <ℤ roman_day_number y m name) × (roman_day_number y m name ≤ℤ principal_day y m name))
unfolding IsRomanDate
valid_is y m name h = (
  λ r.
      let (z, k, x, g, e) = preceding_is y m name h in
      let last = (r.4 z k x g.0 g.1 g.2).1 (rw e at (precedes y m name h)) in
      let own = (r.4 y m name h.0 h.1 h.2).0 in (
        r.3,
        rw e last,
        by_lt_z (principal_day y m name) (roman_day_number y m name)
            (λ lt. absurd (omega (arith, signed_arith, own lt))) (λ ge. ge),
      ),
  λ s. (
    h.0,
    h.1,
    h.2,
    s.0,
    λ z k x a b c. (
      λ lt. omega (arith, signed_arith, s.2, lt),
      λ lt. by_lt_z (principal_day z k x) (roman_day_number y m name) (λ less. less)
          (λ ge. absurd (omega (
            arith,
            signed_arith,
            lt,
            none_between y z m k name x h (a, b, c) (omega (arith, signed_arith, s.1, ge)),
          ))),
    ),
  ),
)
