-- Rounds by remainders: what is a place by a remainder of the days moves one place on each day.
use Rattle.std.proofs.Common.{◌≡◌, ℕ, zero, suc, ◌+◌, ◌-◌, ◌*◌, ◌/◌, ◌<◌, ◌%◌, ◌==◌, if◌then◌else◌, sym, subst, ap}
use Rattle.std.proofs.Common.{zero-add, ◌≤◌, ◌∙◌, arith, add-one, inl, inr, ℤ, pos, negsuc, ◌+ℤ◌, ◌-ℤ◌, unsigned_abs}
use Rattle.std.proofs.Math.Nat.{mod-add-mod, mod_self, mod-eq_of_lt, add-mul, add-mul-mod_self_right}
use Rattle.std.proofs.lemmas.Nat.{mod-mul-add}
use Rattle.std.proofs.lemmas.Bool.{cases_lt}
use Rattle.std.specs.Fn.{iterate}
use Rattle.std.specs.Int.{int_rem_euclid}
use Rattle.std.proofs.lemmas.Bool.Decides.{nat_tests}
use Rattle.std.proofs.lemmas.Int.{ints}
use Rattle.maya_calendars.specs.Rounds.{epoch, number_after, number_before, after_days, round_number}
use Rattle.maya_calendars.specs.Rounds.{StepsOnEachDay}

below_zero_next : (n : ℕ) → negsuc (suc n) +ℤ pos 1 ≡ negsuc n
below_zero_next n = omega (arith, ints)

-- names that a step on leads from day to day, and that a step back undoes, are those that the steps from
-- the first name lead to
steps_on : {A : Type 0} → (on : A → A) (name_of : ℤ → A) → StepsOnEachDay on name_of → (n : ℕ) (day : ℤ)
    → iterate on n (name_of day) ≡ name_of (day +ℤ pos n)
steps_on on name_of each_day zero day = let same : day ≡ day +ℤ pos 0 = omega (arith, ints) in ap name_of same
steps_on on name_of each_day (suc n) day =
    let next : day +ℤ pos 1 +ℤ pos n ≡ day +ℤ pos (suc n) = omega (arith, ints) in
    ap (iterate on n) (sym (each_day day)) ∙ steps_on on name_of each_day n (day +ℤ pos 1) ∙ ap name_of next

steps_back : {A : Type 0} → (back : A → A) (name_of : ℤ → A) → ((day : ℤ) → back (name_of (day +ℤ pos 1)) ≡ name_of day)
    → (n : ℕ) (day : ℤ) → iterate back n (name_of day) ≡ name_of (day -ℤ pos n)
steps_back back name_of undone zero day = let same : day ≡ day -ℤ pos 0 = omega (arith, ints) in ap name_of same
steps_back back name_of undone (suc n) day =
    let before : day ≡ day -ℤ pos 1 +ℤ pos 1 = omega (arith, ints) in
    let next : day -ℤ pos 1 -ℤ pos n ≡ day -ℤ pos (suc n) = omega (arith, ints) in
    cc (undone (day -ℤ pos 1), steps_back back name_of undone n (day -ℤ pos 1))

pub after_days_are : {A : Type 0} → (on back : A → A) (name_of : ℤ → A) → StepsOnEachDay on name_of
    → ((day : ℤ) → back (on (name_of day)) ≡ name_of day) → (day : ℤ)
    → after_days on back (name_of (pos 0)) day ≡ name_of day
unfolding after_days
after_days_are on back name_of each_day undone (pos n) = grind (arith, ints, steps_on on name_of each_day n (pos 0))
after_days_are on back name_of each_day undone (negsuc n) =
    let counted : pos 0 -ℤ pos (suc n) ≡ negsuc n = omega (arith, ints) in
    steps_back back name_of (λ day. ap back (each_day day) ∙ undone day) (suc n) (pos 0) ∙ ap name_of counted

-- so a step on leads from the name of each day to the next, also where the days are counted from the epoch
pub each_day_from_epoch : {A : Type 0} → (on back : A → A) (name_of : ℤ → A) → StepsOnEachDay on name_of
    → ((day : ℤ) → back (on (name_of day)) ≡ name_of day)
    → StepsOnEachDay on (λ day. after_days on back (name_of (pos 0)) (day -ℤ epoch))
each_day_from_epoch on back name_of each_day undone day = grind (arith, ints, after_days_are)

-- the place of a day in a round of n, counted from 0
abbrev pub place_in : ℕ → ℤ → ℕ
place_in n day = unsigned_abs (int_rem_euclid day (pos n))

small_next : (n r : ℕ) → r < n → (r + 1) % n ≡ (if r + 1 == n then 0 else r + 1)
small_next n r h = grind (arith, nat_tests, mod_self, mod-eq_of_lt)

mod_next : (n a : ℕ) → 0 < n → (a + 1) % n ≡ (if a % n + 1 == n then 0 else a % n + 1)
mod_next n a h = sym (mod-add-mod a n 1) ∙ small_next n (a % n) (omega arith)

pub place_below : (n : ℕ) (day : ℤ) → 0 < n → place_in n day < n
place_below n (pos a) h = omega arith
place_below n (negsuc a) h = omega arith

-- a remainder counted from the other end
down_next : (n r s : ℕ) → r < n → s ≡ (if r + 1 == n then 0 else r + 1)
    → n - 1 - r ≡ (if n - 1 - s + 1 == n then 0 else n - 1 - s + 1)
down_next n r s h e = grind (arith, nat_tests)

zero_next : (n z : ℕ) → 0 < n → z ≡ 0 → z ≡ (if n - 1 - z + 1 == n then 0 else n - 1 - z + 1)
zero_next n z h e = grind (arith, nat_tests)

pub place_next : (n : ℕ) (day : ℤ) → 0 < n
    → place_in n (day +ℤ pos 1) ≡ (if place_in n day + 1 == n then 0 else place_in n day + 1)
place_next n (pos a) h = mod_next n a h
place_next n (negsuc zero) h = zero_next n (0 % n) h (omega arith)
place_next n (negsuc (suc a)) h =
    ap (place_in n) (below_zero_next a)
    ∙ down_next n (a % n) (suc a % n) (omega arith) (ap (λ k. k % n) (sym (add-one a)) ∙ mod_next n a h)

-- in the round of the numbers 1 to n the number is the place and one
number_next : (n k j : ℕ) → k < n → j ≡ (if k + 1 == n then 0 else k + 1) → j + 1 ≡ number_after n (k + 1)
number_next n k j h e = grind (arith, nat_tests)

number_undone : (n k : ℕ) → k < n → number_before n (number_after n (k + 1)) ≡ k + 1
number_undone n k h = grind (arith, nat_tests)

-- the number that many days after the day at place k
abbrev pub number_by : ℕ → ℕ → ℤ → ℕ
number_by n k days = place_in n (days +ℤ pos k) + 1

by_each_day : (n k : ℕ) → 0 < n → StepsOnEachDay (number_after n) (number_by n k)
by_each_day n k h days =
    let later : (days +ℤ pos 1) +ℤ pos k ≡ (days +ℤ pos k) +ℤ pos 1 = omega (arith, ints) in
    number_next n (place_in n (days +ℤ pos k)) (place_in n ((days +ℤ pos 1) +ℤ pos k)) (place_below n (days +ℤ pos k) h)
    (ap (place_in n) later ∙ place_next n (days +ℤ pos k) h)

by_undone : (n k : ℕ) → 0 < n → (days : ℤ) → number_before n (number_after n (number_by n k days)) ≡ number_by n k days
by_undone n k h days = number_undone n (place_in n (days +ℤ pos k)) (place_below n (days +ℤ pos k) h)

by_first : (n k first : ℕ) → k + 1 ≡ first → first ≤ n → number_by n k (pos 0) ≡ first
by_first n k first e h = grind (arith, ints, zero-add, mod-eq_of_lt)

-- the remainder gives the number in the round
pub round_number_is : (n k first : ℕ) (day : ℤ) → k + 1 ≡ first → first ≤ n
    → number_by n k (day -ℤ epoch) ≡ round_number n first day
round_number_is n k first day e h =
    let some : 0 < n = omega arith in
    subst (λ f. number_by n k (day -ℤ epoch) ≡ after_days (number_after n) (number_before n) f (day -ℤ epoch))
    (by_first n k first e h) (sym (after_days_are (number_after n) (number_before n) (number_by n k)
    (by_each_day n k some) (by_undone n k some) (day -ℤ epoch)))

-- a place is the same so many rounds later, where no number is negative
later_place : (n k x : ℕ) (z : ℤ) → 0 < n → pos x ≡ z +ℤ pos (k * n) → x % n ≡ place_in n z
later_place n k x (pos a) h e = grind (arith, ints, add-mul-mod_self_right a k n)
later_place n k x (negsuc a) h e =
    elim (cases_lt (a / n) k) [
      | inl less ↦
          let j = k - a / n - 1 in
          let rounds : k ≡ a / n + (j + 1) = omega arith in
          let split = rw (← rounds) at (add-mul (a / n) (j + 1) n) in
          let same : x ≡ j * n + (n - 1 - a % n) = omega (arith, ints, e, split, add-mul j 1 n) in
          rw same (mod-mul-add j n (n - 1 - a % n) (omega arith))
      | inr more ↦
          let rounds : a / n ≡ k + (a / n - k) = omega arith in
          absurd (omega (arith, ints, e, rw (← rounds) at (add-mul k (a / n - k) n)))
    ]

-- also as it is computed
pub number_from_remainder : (n k first rounds x : ℕ) (day : ℤ) → pos x ≡ ((day -ℤ epoch) +ℤ pos k) +ℤ pos (rounds * n)
    → k + 1 ≡ first → first ≤ n → x % n + 1 ≡ round_number n first day
number_from_remainder n k first rounds x day e h l =
    cc (later_place n rounds x ((day -ℤ epoch) +ℤ pos k) (omega arith) e, round_number_is n k first day h l)

-- which moves one place on each day
pub round_number_each_day : (n k first : ℕ) → k + 1 ≡ first → first ≤ n
    → StepsOnEachDay (number_after n) (round_number n first)
round_number_each_day n k first e h =
    let some : 0 < n = omega arith in
    subst (λ f. StepsOnEachDay (number_after n) (λ day. after_days (number_after n) (number_before n) f (day -ℤ epoch)))
    (by_first n k first e h) (each_day_from_epoch (number_after n) (number_before n) (number_by n k)
    (by_each_day n k some) (by_undone n k some))
