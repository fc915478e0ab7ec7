-- A stable sort by the day gives the order of entries.
use Rattle.std.proofs.Common.{◌≡◌, ◌≢◌, ◌≤◌, ◌<◌, ◌+◌, ◌-◌, ◌++◌, ◌∙◌, ℕ, zero, suc, List, [], ◌∷◌, arith, eqb, false}
use Rattle.std.proofs.Common.{get_or, inl, inr, length}
use Rattle.std.proofs.Common.{add-one, ap, refl, subst, sym}
use Rattle.std.specs.List.{AllByRecursion, IsDistinct, range_with_len}
use Rattle.std.specs.List.Sorted.{IsNonDecreasingBy, IsPermutation, IsSortedByKey, IsStableByKey}
use Rattle.std.specs.Ordering.{is_lt, nat_cmp}
use Rattle.std.proofs.Math.Nat.{eq-or-lt_of_le}
use Rattle.std.proofs.lemmas.Bool.{ne_eqb}
use Rattle.std.proofs.lemmas.Bool.Decides.{eqb_tells}
use Rattle.std.proofs.lemmas.List.FromFn.{get_or-range_with_len, length-range_with_len}
use Rattle.std.proofs.lemmas.List.Sorted.{ties_still_rise}
use Rattle.std.proofs.lemmas.Map.Keys.{IsDistinct-IsPermutation, apart_from_distinct}
use Rattle.page_rules.specs.DayOrders.{ComesBefore, IsDayOrder, day_of}

more_from : (a n : ℕ) → range_with_len a n ++ (a + n) ∷ [] ≡ range_with_len a (suc n)
more_from a zero = ap (λ x. x ∷ []) (omega arith)
more_from a (suc n) =
    let last : a + suc n ≡ (a + 1) + n = omega arith in rw last (ap (λ xs. a ∷ xs) (more_from (a + 1) n))

-- one number more
pub one_more : (n : ℕ) → range_with_len 0 n ++ n ∷ [] ≡ range_with_len 0 (n + 1)
one_more n = let same : 0 + n ≡ n = omega arith in rw add-one (rw same at (more_from 0 n))

-- no number of a range stands there twice
none_below : (x a n : ℕ) → x < a → AllByRecursion (λ y. eqb x y ≡ false) (range_with_len a n)
none_below x a zero low = tt
none_below x a (suc n) low = (ne_eqb x a (omega (arith, low)), none_below x (a + 1) n (omega (arith, low)))

each_once : (a n : ℕ) → IsDistinct eqb (range_with_len a n)
unfolding IsDistinct
each_once a zero = tt
each_once a (suc n) = (none_below a (a + 1) n (omega arith), each_once (a + 1) n)

eqb_flips : (x y : ℕ) → eqb x y ≡ eqb y x
eqb_flips x y = elim (eqb_tells x y) [
  | inl (told, same) ↦ rw same refl
  | inr (told, other) ↦ told ∙ sym (ne_eqb y x (λ e. other (sym e)))
]

not_less : (x y : ℕ) → y ≤ x → is_lt (nat_cmp x y) ≡ false
not_less x y low = grind (arith, low)

rises : (n : ℕ) → IsSortedByKey (λ (x : ℕ). x) nat_cmp (range_with_len 0 n)
rises n = λ k d low within.
    let long = length-range_with_len 0 n in
    let here : get_or (range_with_len 0 n) k d ≡ 0 + k = get_or-range_with_len 0 n k d (omega (arith, within, long)) in
    let next : get_or (range_with_len 0 n) (k + 1) d ≡ 0 + (k + 1)
    = get_or-range_with_len 0 n (k + 1) d (omega (arith, within, long)) in
    not_less (get_or (range_with_len 0 n) (k + 1) d) (get_or (range_with_len 0 n) k d) (omega (arith, here, next))

next_too : (days : List ℕ) (a b c : ℕ) → ComesBefore days a b → ComesBefore days b c → ComesBefore days a c
next_too days a b c (inl one) (inl other) = inl (omega (arith, one, other))
next_too days a b c (inl one) (inr (same, other)) = inl (omega (arith, one, same))
next_too days a b c (inr (same, one)) (inl other) = inl (omega (arith, same, other))
next_too days a b c (inr (same, one)) (inr (also, other)) = inr (same ∙ also, omega (arith, one, other))

module _ (days order : List ℕ) (all : IsPermutation (range_with_len 0 (length days)) order)
    (rising : IsNonDecreasingBy (day_of days) order)
    (stable : IsStableByKey (day_of days) nat_cmp (range_with_len 0 (length days)) order) where
  apart : (k : ℕ) → k + 1 < length order → get_or order k 0 ≢ get_or order (k + 1) 0
  apart k within same =
      let once = IsDistinct-IsPermutation eqb eqb_flips _ _ all (each_once 0 (length days)) in
      let other = apart_from_distinct eqb order k (k + 1) 0 once (omega arith) within in
      grind (arith, other, same)

  neighbours : (k : ℕ) → k + 1 < length order → ComesBefore days (get_or order k 0) (get_or order (k + 1) 0)
  neighbours k within =
      let up = rising k (k + 1) 0 (omega arith) within in
      let later = ties_still_rise (λ (x : ℕ). x) (day_of days) _ order (rises (length days)) stable k 0 within in
      let other = apart k within in
      elim (eq-or-lt_of_le up) [
        | inl same ↦ inr (same, omega (arith, later same, other))
        | inr less ↦ inl less
      ]

  -- the first of more neighbours comes before the last
  from_here : (k n : ℕ) → k + n + 1 < length order → ComesBefore days (get_or order k 0) (get_or order (k + n + 1) 0)
  from_here k zero within =
      let same : k + 0 + 1 ≡ k + 1 = omega arith in rw same (neighbours k (omega (arith, within)))
  from_here k (suc n) within =
      let same : k + suc n + 1 ≡ k + n + 1 + 1 = omega arith in
      rw same (next_too days _ _ _ (from_here k n (omega (arith, within))) (neighbours (k + n + 1) (omega (arith, within))))

  pub is_day_order : IsDayOrder days order
  is_day_order = record {
    all = all;
    in_order = λ i j before within.
        let gap : i + (j - (i + 1)) + 1 ≡ j = omega (arith, before) in
        subst (λ k. ComesBefore days (get_or order i 0) (get_or order k 0)) gap
        (from_here i (j - (i + 1)) (omega (arith, gap, within)));
  }
