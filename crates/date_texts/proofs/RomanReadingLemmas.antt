-- Reading finds the Roman dates that the grammar relates to a text, and nothing else.
use Rattle.std.proofs.Common.{◌≡◌, ℕ, List, [], ◌∷◌, refl, subst, ◌≤◌, arith, Some, ℤ, true, false, codes}
use Rattle.date_texts.specs.RomanText.{IsNameText, of_kalends, of_nones, of_ides, of_second_sixth, IsRomanText}
use Rattle.date_texts.specs.private.RomanReading.{count_at, counted_at, name_at, roman_at}
use Rattle.std.proofs.lemmas.Slice.Eq.{bytes_eq-Decides}
use Rattle.date_texts.proofs.Common.{and_parts, count_of, false_from_ne_true, is_ascii_digit, IsNumeral, nat_tests}
use Rattle.date_texts.proofs.Common.{RomanName, str_eq_ignore_ascii_case, str_to_ascii_lowercase, to_ascii_lowercase}
use Rattle.date_texts.proofs.ReadingLemmas.{bind_some, some_inside, numbers, years, numeral_below, part_found}
use Rattle.date_texts.proofs.ReadingLemmas.{part_taken, last_found, last_taken}

-- ---- what is read is in the grammar
count_read : (bytes : List ℕ) (n : ℕ) → count_at bytes ≡ Some n → IsNumeral 2 bytes n
unfolding count_at
count_read bytes n e =
    let (k, is, same) = last_found (numbers 1) (λ k. k) bytes n e in subst (IsNumeral 2 bytes) same is

counted_read : (bytes : List ℕ) (name : RomanName) → counted_at bytes ≡ Some name → IsNameText bytes name
unfolding counted_at
counted_read [] name e = absurd (cc)
counted_read (c ∷ cs) name e =
    grind (arith, nat_tests, bind_some, count_read, some_inside, of_kalends, of_nones, of_ides)

name_read : (bytes : List ℕ) (name : RomanName) → name_at bytes ≡ Some name → IsNameText bytes name
unfolding name_at
name_read bytes name e = grind (
  arith,
  some_inside,
  counted_read,
  of_second_sixth,
  bytes_eq-Decides (str_to_ascii_lowercase bytes) (codes "k6b"),
)

pub roman_says : (text : List ℕ) (x : ℤ × ℕ × RomanName) → roman_at text ≡ Some x → IsRomanText text x.0 x.1 x.2
unfolding roman_at
roman_says text x e =
    let (y, (year, after_year, is_year, e1, j1)) = part_found years 45 _ text _ e in
    let (n, (month, day, is_month, e2, j2)) = part_found (numbers 1) 45 _ after_year _ e1 in
    let name = bind_some (name_at day) _ x e2 in
    subst (λ (p : ℤ × ℕ × RomanName). IsRomanText text p.0 p.1 p.2) (some_inside name.2)
    (year, after_year, is_year, (month, day, is_month, name_read day name.0 name.1, j2), j1)

-- ---- and what is in the grammar is read
count_take : (ds : List ℕ) (n : ℕ) → IsNumeral 2 ds n → count_at ds ≡ Some n
unfolding count_at
count_take ds n h = last_taken (numbers 1) (λ k. k) ds n h

-- the second byte of a counted name is a digit, and that of K6B is followed by a letter
digit_no_letter : (c : ℕ) → is_ascii_digit c ≡ true → to_ascii_lowercase c ≡ 98 → ⊥
digit_no_letter c h e = grind (arith, nat_tests)

no_second_sixth : (c : ℕ) (ds : List ℕ) (n : ℕ) → IsNumeral 2 ds n → str_to_ascii_lowercase (c ∷ ds) ≡ codes "k6b" → ⊥
no_second_sixth c [] n h e = cc
no_second_sixth c (a ∷ []) n h e = cc
no_second_sixth c (a ∷ b ∷ []) n h e = grind (arith, and_parts, digit_no_letter)
no_second_sixth c (a ∷ b ∷ d ∷ ds) n h e = omega (arith, h.few)

no_sixth_test : (c : ℕ) (ds : List ℕ) (n : ℕ) → IsNumeral 2 ds n
    → str_eq_ignore_ascii_case (c ∷ ds) (codes "K6B") ≡ false
no_sixth_test c ds n h =
    let tells = bytes_eq-Decides (str_to_ascii_lowercase (c ∷ ds)) (codes "k6b") in
    false_from_ne_true _ (λ t. no_second_sixth c ds n h (tells.0 t))

name_take : (text : List ℕ) (name : RomanName) → IsNameText text name → name_at text ≡ Some name
unfolding name_at counted_at
name_take _ _ (of_kalends {c = c} {n = n} {text = ds} e h) =
    rw (no_sixth_test c ds n h, e, count_take ds n h) refl
name_take _ _ (of_nones {c = c} {n = n} {text = ds} e h) = grind (arith, count_take ds n h)
name_take _ _ (of_ides {c = c} {n = n} {text = ds} e h) = grind (arith, count_take ds n h)
name_take _ _ (of_second_sixth {text = text} e) = rw e refl

pub roman_said : (text : List ℕ) (x : ℤ × ℕ × RomanName) → IsRomanText text x.0 x.1 x.2 → roman_at text ≡ Some x
unfolding roman_at
roman_said text x (year, after_year, is_year, (month, day, is_month, is_name, j2), j1) =
    let e1 = part_taken (numbers 1) 45 _ after_year _ x.1 refl
    (month, day, is_month, rw (name_take day x.2 is_name) refl, j2) in
    part_taken years 45 _ text _ x.0 refl (year, after_year, is_year, e1, j1)

pub count_in : {text : List ℕ} {name : RomanName} → IsNameText text name → count_of name ≤ 99
count_in (of_kalends e h) = omega (arith, numeral_below h)
count_in (of_nones e h) = omega (arith, numeral_below h)
count_in (of_ides e h) = omega (arith, numeral_below h)
count_in (of_second_sixth e) = omega arith
