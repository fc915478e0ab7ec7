-- Numbers below a hundred by their digits.
use Rattle.std.proofs.Common.{◌≡◌, ℕ, ◌+◌, ◌*◌, ◌/◌, ◌%◌, ◌<◌, ◌≤◌, Bool, ◌&&◌, eqb, get_or, refl, arith}
use Rattle.std.proofs.Common.{eq-zero-or-pos, length}
use Rattle.std.specs.Fmt.{decimal}
use Rattle.std.specs.List.{range_with_len}
use Rattle.std.proofs.lemmas.Bool.{and_parts, eqb-true}
use Rattle.std.proofs.lemmas.Fmt.{decimal_digit}
use Rattle.std.proofs.lemmas.List.FromFn.{get_or-range_with_len, length-range_with_len}
use Rattle.std.proofs.lemmas.List.Sums.{AllPass-from_list_all}
use Rattle.itoa.proofs.Decimal.{pair, decimal_two, length_one, length_two}
use Rattle.date_texts.specs.Buffers.{padded}
use Rattle.date_texts.specs.declared.decimals.TheConstants.{PAIRS}

pub two_digits : (n : ℕ) → n ≤ 99 → padded 2 n ≡ pair n
two_digits n h = grind (arith, eq-zero-or-pos, decimal_digit, decimal_two)

-- one digit or two
pub one_or_two : (n : ℕ) → n ≤ 99 → (1 ≤ length (decimal n)) × (length (decimal n) ≤ 2)
one_or_two n h = grind (arith, eq-zero-or-pos, length_one, length_two)

-- the table of two digits has those of each number, which is computed
abbrev is_pair : ℕ → Bool
is_pair n = eqb (get_or PAIRS (2 * n) 0) (48 + n / 10) && eqb (get_or PAIRS (2 * n + 1) 0) (48 + n % 10)

pub pairs_at : (n : ℕ) → n < 100
    → (get_or PAIRS (2 * n) 0 ≡ 48 + n / 10) × (get_or PAIRS (2 * n + 1) 0 ≡ 48 + n % 10)
pairs_at n h =
    let same : 0 + n ≡ n = omega arith in
    let passed = rw (get_or-range_with_len, same) at
    (AllPass-from_list_all is_pair (range_with_len 0 100) refl n 0 (omega (arith, length-range_with_len 0 100))) in
    let both = and_parts _ _ passed in
    (eqb-true _ _ both.0, eqb-true _ _ both.1)
