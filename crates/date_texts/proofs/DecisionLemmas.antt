-- What can be decided: a statement holds, or it does not. The logic is constructive, so that each of these is a proof.
use Rattle.std.proofs.Common.{◌≡◌, ◌⊎◌, inl, inr, ℕ, zero, suc, ◌<◌, ◌≤◌, List, Bool, true, false, IsTrue, refl, subst}
use Rattle.std.proofs.Common.{arith, ℤ, ◌<ℤ◌, ◌≤ℤ◌}
use Rattle.std.proofs.lemmas.Slice.Eq.{bytes_eq-Decides}
use Rattle.day_numbers.proofs.SignedArithmeticLemmas.{signed_arith}
use Rattle.date_texts.proofs.Common.{by_lt_z, bytes_eq, cases_lt, IsBetween, IsNamed, str_to_ascii_lowercase, trimmed}

-- it holds, or it does not
abbrev pub Is : Type 0 → Type 0
Is P = P ⊎ (¬ P)

-- a statement in other words
pub in_words : {P Q : Type 0} → Is P → (P → Q) → (Q → P) → Is Q
in_words (inl p) to from = inl (to p)
in_words (inr not) to from = inr (λ q. not (from q))

pub both : {P Q : Type 0} → Is P → Is Q → Is (P × Q)
both (inl p) (inl q) = inl (p, q)
both (inl p) (inr not) = inr (λ h. not h.1)
both (inr not) q = inr (λ h. not h.0)

pub all_three : {P Q R : Type 0} → Is P → Is Q → Is R → Is (P × Q × R)
all_three p q r = in_words (both p (both q r)) (λ h. (h.0, h.1.0, h.1.1)) (λ h. (h.0, (h.1, h.2)))

pub all_four : {P Q R S : Type 0} → Is P → Is Q → Is R → Is S → Is (P × Q × R × S)
all_four p q r s =
    in_words (both p (all_three q r s)) (λ h. (h.0, h.1.0, h.1.1, h.1.2)) (λ h. (h.0, (h.1, h.2, h.3)))

pub either : {P Q : Type 0} → Is P → Is Q → Is (P ⊎ Q)
either (inl p) q = inl (inl p)
either (inr not) (inl q) = inl (inr q)
either (inr not) (inr nor) = inr (λ h. elim h [ inl p ↦ not p | inr q ↦ nor q ])

pub is_true : (b : Bool) → Is (IsTrue b)
is_true true = inl refl
is_true false = inr (λ h. cc)

-- numbers
pub is_at_most : (m n : ℕ) → Is (m ≤ n)
is_at_most m n = elim (cases_lt n m) [ inl more ↦ inr (λ h. omega (arith, more, h)) | inr most ↦ inl most ]

pub is_number : (m n : ℕ) → Is (m ≡ n)
is_number m n =
    in_words (both (is_at_most m n) (is_at_most n m)) (λ h. omega (arith, h.0, h.1)) (λ e. (omega arith, omega arith))

pub is_at_most_z : (y z : ℤ) → Is (y ≤ℤ z)
is_at_most_z y z = by_lt_z z y (λ more. inr (λ h. omega (arith, signed_arith, more, h))) (λ most. inl most)

pub is_less_z : (y z : ℤ) → Is (y <ℤ z)
is_less_z y z = by_lt_z y z (λ less. inl less) (λ most. inr (λ h. omega (arith, signed_arith, most, h)))

pub is_integer : (y z : ℤ) → Is (y ≡ z)
is_integer y z = grind (arith, signed_arith, in_words, both, is_at_most_z)

pub is_between : (low high z : ℤ) → Is (IsBetween low high z)
is_between low high z = both (is_at_most_z low z) (is_at_most_z z high)

-- texts
is_text_by : (b : Bool) {P : Type 0} → (b ≡ true → P) × (P → b ≡ true) → Is P
is_text_by true tells = inl (tells.0 refl)
is_text_by false tells = inr (λ p. let e : false ≡ true = tells.1 p in cc)

pub is_named : (text name : List ℕ) → Is (IsNamed text name)
is_named text name =
    is_text_by (bytes_eq (str_to_ascii_lowercase (trimmed text)) name)
    (bytes_eq-Decides (str_to_ascii_lowercase (trimmed text)) name)

-- of the numbers under one, whether some is as said
abbrev pub Below : ℕ → (ℕ → Type 0) → Type 0
Below k P = (n : ℕ) × (n < k) × P n

pub some_below : (k : ℕ) (P : ℕ → Type 0) → ((n : ℕ) → Is (P n)) → Is (Below k P)
some_below zero P is = inr (λ h. omega (arith, h.1))
some_below (suc k) P is =
    in_words (either (is k) (some_below k P is))
    (λ h. elim h [ inl p ↦ (k, omega arith, p) | inr b ↦ (b.0, omega (arith, b.1), b.2) ])
    (λ h. elim (cases_lt h.0 k) [
      | inl less ↦ inr (h.0, less, h.2)
      | inr most ↦ let same : h.0 ≡ k = omega (arith, h.1, most) in inl (subst P same h.2)
    ])
