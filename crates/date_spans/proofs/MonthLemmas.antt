-- The months of a year.
use Rattle.std.proofs.Common.{◌≡◌, ℕ, zero, suc, ◌+◌, ◌<◌, Bool, true, false, List, [], ◌∷◌, refl, arith}
use Rattle.std.proofs.Common.{pos, ◌==◌, ◌&&◌, nat_le, subst}
use Rattle.std.specs.Prelude.{IsTrue, not}
use Rattle.std.proofs.lemmas.Bool.{and_parts}
use Rattle.std.proofs.lemmas.Bool.Decides.{nat_tests}
use Rattle.day_numbers.specs.Rules.{Years, from_one, with_zero, without_zero, Rules, HasYear, total_days, days_of_month}
use Rattle.day_numbers.specs.Rules.{days_before_month, has_number, are_months}
use Rattle.day_numbers.specs.declared.rules.Month.{Month}
use Rattle.date_spans.specs.Months.{has_year, months_in, first_month, last_month}

pub has_year_is : (s : Years) (y : ℕ) → HasYear s (pos y) → has_year s y ≡ true
has_year_is with_zero y h = refl
has_year_is s (suc y) h = refl
has_year_is from_one zero h = absurd h
has_year_is without_zero zero h = absurd h

no_year_is : (s : Years) (y : ℕ) → ¬ HasYear s (pos y) → has_year s y ≡ false
no_year_is with_zero zero h = absurd (h tt)
no_year_is with_zero (suc y) h = absurd (h tt)
no_year_is from_one zero h = refl
no_year_is without_zero zero h = refl
no_year_is from_one (suc y) h = absurd (h tt)
no_year_is without_zero (suc y) h = absurd (h tt)

pub months_are : (rules : Rules) (year : ℕ) → HasYear rules.years (pos year)
    → months_in rules year ≡ rules.months (pos year)
unfolding months_in
months_are rules year h = rw (has_year_is rules.years year h) refl

pub no_months : (rules : Rules) (year : ℕ) → ¬ HasYear rules.years (pos year) → months_in rules year ≡ []
unfolding months_in
no_months rules year h = rw (no_year_is rules.years year h) refl

pub no_large_month : (months : List Month) (k : ℕ) → IsTrue (are_months months) → 99 < k → days_of_month months k ≡ 0
no_large_month [] k h large = refl
no_large_month (m ∷ months) k h large =
    let a = and_parts (not (has_number months m.number) && nat_le m.number 99 && nat_le m.days 99) (are_months months) h in
    let b = and_parts (not (has_number months m.number) && nat_le m.number 99) (nat_le m.days 99) a.0 in
    let c = and_parts (not (has_number months m.number)) (nat_le m.number 99) b.0 in
    let later : days_of_month months k ≡ 0 = no_large_month months k a.1 large in
    grind (arith, nat_tests)

-- the first month has no days before it
pub first_before : (months : List Month) → days_before_month months (first_month months) ≡ 0
first_before [] = refl
first_before (m ∷ months) = grind (arith, nat_tests)

last_there : (m : Month) (months : List Month) → IsTrue (has_number (m ∷ months) (last_month (m ∷ months)))
last_there m [] = grind (arith, nat_tests)
last_there m (n ∷ months) =
    let later : IsTrue (has_number (n ∷ months) (last_month (n ∷ months))) = last_there n months in
    grind (arith, nat_tests)

both : (b : Bool) → IsTrue (not b) → IsTrue b → ⊥
both true h g = absurd (cc)
both false h g = absurd (cc)

either : (b : Bool) → (b ≡ true → ⊥) → b ≡ false
either true h = absurd (h refl)
either false h = refl

-- a number that no month has is none that one has
not_same : (months : List Month) (k j : ℕ) → IsTrue (not (has_number months k)) → IsTrue (has_number months j)
    → (k == j) ≡ false
not_same months k j none there =
    either (k == j) (λ e. let same : k ≡ j = grind (arith, nat_tests) in
    both (has_number months j) (subst (λ (n : ℕ). IsTrue (not (has_number months n))) same none) there)

-- the last month ends with the year
pub last_ends : (months : List Month) → IsTrue (are_months months)
    → days_before_month months (last_month months) + days_of_month months (last_month months) ≡ total_days months
last_ends [] h = refl
last_ends (m ∷ []) h = grind (arith, nat_tests)
last_ends (m ∷ n ∷ months) h =
    let a = and_parts (not (has_number (n ∷ months) m.number) && nat_le m.number 99 && nat_le m.days 99)
    (are_months (n ∷ months)) h in
    let b = and_parts (not (has_number (n ∷ months) m.number) && nat_le m.number 99) (nat_le m.days 99) a.0 in
    let c = and_parts (not (has_number (n ∷ months) m.number)) (nat_le m.number 99) b.0 in
    let later = last_ends (n ∷ months) a.1 in
    let there = last_there n months in
    let other : (m.number == last_month (n ∷ months)) ≡ false = not_same (n ∷ months) m.number _ c.0 there in
    rw other (omega (arith, later))

-- the last month of what is left, or else this one
abbrev pub last_from : ℕ → List Month → ℕ
last_from last [] = last
last_from last (m ∷ months) = last_from m.number months

last_of_some : (last : ℕ) (m : Month) (months : List Month) → last_from last (m ∷ months) ≡ last_month (m ∷ months)
last_of_some last m [] = refl
last_of_some last m (n ∷ months) = last_of_some m.number n months

pub last_of_all : (months : List Month) → last_from 0 months ≡ last_month months
last_of_all [] = refl
last_of_all (m ∷ months) = last_of_some 0 m months
