-- The digits of a year, two at a time, and the places of a long count.
use Rattle.std.proofs.Common.{◌≡◌, ℕ, ◌+◌, ◌<◌, ◌≤◌, ◌%◌, ◌/◌, ◌∷◌, ◌++◌, arith, append_assoc, length-append}
use Rattle.std.proofs.Common.{eq-zero-or-pos, List, [], length, take, drop, refl, sym, ap, ◌∙◌, inl, inr, get_or}
use Rattle.std.proofs.Common.{nat_lt, true, false, take-append-drop, length-take-le}
use Rattle.std.proofs.lemmas.Fmt.{decimal_digit}
use Rattle.itoa.proofs.Decimal.{decimal_four, decimal_pair, decimal_two, length_pair, pair}
use Rattle.std.proofs.Math.Seq.{take-append_seam}
use Rattle.date_texts.proofs.Common.{cases_lt, decimal, IsPut, nat_tests, padded, place_row, two_digits}

-- a year of four digits or fewer
small_year : (n : ℕ) → n < 100 → padded 4 n ≡ 48 ∷ 48 ∷ padded 2 n
small_year n h = grind (arith, eq-zero-or-pos, decimal_digit, decimal_two)

pub year_by_pairs : (n : ℕ) → n < 10_000 → padded 4 n ≡ padded 2 (n / 100) ++ padded 2 (n % 100)
year_by_pairs n h = grind (
  arith,
  eq-zero-or-pos,
  decimal_digit,
  small_year,
  decimal_pair,
  length_pair,
  append_assoc,
  two_digits,
)

pub four_digits : (n : ℕ) → n < 10_000 → padded 4 n ≡ pair (n / 100) ++ pair (n % 100)
four_digits n h =
    grind (arith, year_by_pairs n h, two_digits (n / 100) (omega arith), two_digits (n % 100) (omega arith))

-- a year of five digits
pub long_year : (n : ℕ) → 10_000 ≤ n → n < 100_000 → padded 4 n ≡ (48 + n / 10_000) ∷ padded 4 (n % 10_000)
long_year n g h = grind (arith, decimal_digit, decimal_four, length-append, four_digits)

-- ---- a place of a long count by its row, of which what lies behind the place is no part of the text
-- the front of what was written
pub put_front : {a b : List ℕ} {at i : ℕ} (x y : List ℕ) → at ≤ length a → IsPut a b at i (x ++ y)
    → IsPut a b at (at + length x) x
put_front {a = a} {b = b} {at = at} {i = i} x y room h =
    let front = take at a ++ x in
    let long : length front ≡ at + length x = omega (arith, length-append (take at a) x, length-take-le at a room) in
    let whole : b ≡ front ++ (y ++ drop i b) =
    sym (take-append-drop i b)
    ∙ ap (λ (s : List ℕ). s ++ drop i b) (h.value ∙ sym (append_assoc (take at a) x y))
    ∙ append_assoc front y (drop i b) in
    record {
      follows = refl;
      value = ap (take (at + length x)) whole ∙ rw (← long) (take-append_seam front (y ++ drop i b));
    }

abbrev row_bytes : List ℕ → List ℕ
row_bytes row = get_or row 0 0 ∷ get_or row 1 0 ∷ get_or row 2 0 ∷ get_or row 3 0 ∷ []

-- the row of a place is its text and a rest, and says how long the text is
pub row_text : (place : ℕ) → place < 20 → (rest : List ℕ)
    × (row_bytes (place_row place) ≡ (46 ∷ decimal place) ++ rest)
    × (get_or (place_row place) 3 0 ≡ length (46 ∷ decimal place))
row_text place h =
    elim (cases_lt place 10) [
      | inl less ↦
          let test : nat_lt place 10 ≡ true = grind (arith, nat_tests) in
          let digit = decimal_digit place less in (32 ∷ 2 ∷ [], rw (test, digit) refl, rw (test, digit) refl)
      | inr more ↦
          let test : nat_lt place 10 ≡ false = grind (arith, nat_tests) in
          let digits = decimal_two place more (omega arith) in
          let tens : 48 + place / 10 ≡ 49 = omega arith in
          let ones : 48 + place % 10 ≡ 38 + place = omega arith in
          (3 ∷ [], rw (test, digits, tens, ones) refl, rw (test, digits) refl)
    ]
