-- Sums over stripes, values that change at one number, and items that are dealt to stripes by turns.
use Rattle.std.proofs.Common.{inl, inr, ◌≡◌, ◌<◌, ◌≤◌, ◌+◌, ◌*◌, ℕ, zero, suc, refl, sym, ap, arith, rules, ◌++◌, List}
use Rattle.std.proofs.Common.{[], ◌∷◌, length, ◌∙◌, ◌%◌, ◌==◌, if◌then◌else◌, eq-eqb, ne_eqb}
use Rattle.std.proofs.lemmas.Bool.{cases_eq, eq-eqb, ne_eqb}
use Rattle.std.proofs.lemmas.Nat.{mod_below}
use Rattle.lane_rings.specs.Machine.{put}
use Rattle.lane_rings.specs.Schedules.{total}

pub put_other : {X : Type 0} (old : ℕ → X) (i j : ℕ) (x : X) → (j ≡ i → ⊥) → put old i x j ≡ old j
put_other old i j x other = rw (ne_eqb j i other) refl

pub total_same : (c : ℕ) (f g : ℕ → ℕ) → ((i : ℕ) → i < c → f i ≡ g i) → total c f ≡ total c g
total_same zero f g same = refl
total_same (suc c) f g same =
    omega (arith, total_same c f g (λ i l. same i (omega arith)), same c (omega arith))

pub total_le : (c : ℕ) (f g : ℕ → ℕ) → ((i : ℕ) → f i ≤ g i) → total c f ≤ total c g
total_le zero f g below = omega arith
total_le (suc c) f g below = omega (arith, total_le c f g below, below c)

pub total_bound : (c b : ℕ) (f : ℕ → ℕ) → ((i : ℕ) → f i ≤ b) → total c f ≤ c * b
total_bound zero b f below = omega arith
total_bound (suc c) b f below = omega (arith, total_bound c b f below, below c)

pub total_zero : (c : ℕ) (f : ℕ → ℕ) → ((i : ℕ) → f i ≡ 0) → total c f ≡ 0
total_zero zero f none = refl
total_zero (suc c) f none = omega (arith, total_zero c f none, none c)

pub total_times : (c k : ℕ) (f : ℕ → ℕ) → total c (λ i. k * f i) ≡ k * total c f
total_times zero k f = omega arith
total_times (suc c) k f = omega (arith, total_times c k f)

-- one of the values of a sum is another
pub total_put : {X : Type 0} (c : ℕ) (weight : X → ℕ) (old : ℕ → X) (i : ℕ) (x : X) → i < c
    → total c (λ j. weight (put old i x j)) + weight (old i) ≡ total c (λ j. weight (old j)) + weight x
total_put zero weight old i x h = absurd (omega arith)
total_put (suc c) weight old i x h =
    elim (cases_eq i c) [
      | inl e ↦
          let here : weight (put old i x c) ≡ weight x = ap weight (rw (eq-eqb c i (sym e)) refl) in
          let rest =
          total_same c (λ j. weight (put old i x j)) (λ j. weight (old j))
          (λ j l. ap weight (put_other old i j x (omega arith))) in
          let at : weight (old c) ≡ weight (old i) = ap (λ (k : ℕ). weight (old k)) (sym e) in
          omega (arith, here, rest, at)
      | inr n ↦
          let here : weight (put old i x c) ≡ weight (old c) = ap weight (put_other old i c x (λ e. n (sym e))) in
          omega (arith, here, total_put c weight old i x (omega arith))
    ]

-- ---- items that are dealt to stripes by turns

-- of items that are dealt to c stripes by turns, the first to stripe k % c: those of stripe i
abbrev pub part : {X : Type 0} → ℕ → ℕ → ℕ → List X → List X
part c i k [] = []
part c i k (x ∷ xs) = if (k % c) == i then x ∷ part c i (k + 1) xs else part c i (k + 1) xs

-- the first item goes to stripe k % c
pub part_own : {X : Type 0} (c i k : ℕ) (x : X) (xs : List X) → k % c ≡ i
    → part c i k (x ∷ xs) ≡ x ∷ part c i (k + 1) xs
part_own c i k x xs own = rw (eq-eqb (k % c) i own) refl

pub part_other : {X : Type 0} (c i k : ℕ) (x : X) (xs : List X) → (k % c ≡ i → ⊥)
    → part c i k (x ∷ xs) ≡ part c i (k + 1) xs
part_other c i k x xs other = rw (ne_eqb (k % c) i other) refl

pub part_append : {X : Type 0} (c i k : ℕ) (xs ys : List X)
    → part c i k (xs ++ ys) ≡ part c i k xs ++ part c i (k + length xs) ys
part_append c i k [] ys = let e : k + 0 ≡ k = omega arith in rw e refl
part_append c i k (x ∷ xs) ys = grind (arith, cases_eq, eq-eqb, ne_eqb, part_append c i (k + 1) xs ys)

-- a stripe past the last has nothing
pub part_within : {X : Type 0} (c i k : ℕ) (xs : List X) → 0 < c → 0 < length (part c i k xs) → i < c
part_within c i k [] h some = absurd (omega arith)
part_within c i k (x ∷ xs) h some =
    elim (cases_eq (k % c) i) [
      | inl own ↦ omega (arith, own, mod_below k c h)
      | inr other ↦ part_within c i (k + 1) xs h (rw (ne_eqb (k % c) i other) at some)
    ]

-- each item goes to one stripe: the lengths of the parts add up to that of the list
pub part_lengths : {X : Type 0} (c k : ℕ) (xs : List X) → 0 < c → total c (λ i. length (part c i k xs)) ≡ length xs
part_lengths c k [] h = total_zero c (λ i. 0) (λ i. refl)
part_lengths c k (x ∷ xs) h =
    let f : ℕ → ℕ = λ i. length (part c i (k + 1) xs) in
    let same =
    total_same c (λ i. length (part c i k (x ∷ xs))) (put f (k % c) (1 + f (k % c))) (λ i l.
    elim (cases_eq i (k % c)) [
      | inl e ↦
          rw (eq-eqb i (k % c) e)
          (ap length (part_own c i k x xs (sym e)) ∙ (omega arith ∙ ap (λ (n : ℕ). 1 + n) (ap f e)))
      | inr n ↦ rw (ne_eqb i (k % c) n) (ap length (part_other c i k x xs (λ e. n (sym e))))
    ]) in
    let put = total_put c (λ n. n) f (k % c) (1 + f (k % c)) (mod_below k c h) in
    omega (arith, same, part_lengths c (k + 1) xs h)

-- the first item of the next stripe is the first of all
pub part_head : {X : Type 0} (c i k : ℕ) (xs zs : List X) (x : X) → k % c ≡ i → x ∷ zs ≡ part c i k xs
    → (more : List X) × (xs ≡ x ∷ more) × (zs ≡ part c i (k + 1) more)
part_head c i k [] zs x own e = cc
part_head c i k (y ∷ xs) zs x own e = search (rules, part_own, part)
