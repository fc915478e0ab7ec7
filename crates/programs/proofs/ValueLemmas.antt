-- The number that a word names is the one that parsing reads.
use Rattle.std.proofs.Common.{◌≡◌, ◌≢◌, ◌&&◌, ◌≤◌, ℕ, Bool, true, false, List, [], ◌∷◌, length, get_or}
use Rattle.std.proofs.Common.{None, Some, Result, Ok, Err, refl, arith, le-leb, nat_le}
use Rattle.std.proofs.lemmas.Str.Parse.{IsNumeralModel, digits_value_short, numerals_by_value, parse_plain}
use Rattle.std.proofs.lemmas.Str.Parse.{tells_all_ascii_digits}
use Rattle.std.specs.Prelude.{if◌then◌else◌}
use Rattle.std.specs.Str.{all_ascii_digits}
use Rattle.std.specs.Str.Parse.{ParsesUnsigned, digits_value}
use Rattle.programs.specs.Values.{number_of}

digits_model : IsNumeralModel (λ ds. all_ascii_digits ds ≡ true) (digits_value 10)
digits_model = numerals_by_value _ tells_all_ascii_digits

-- a number that is read of a word without a sign
pub number_read : {E : Type 0} (word : List ℕ) (most n : ℕ) (read : Result ℕ E)
    → ParsesUnsigned 64 10 word read → get_or word 0 0 ≢ 43 → length word ≤ 5
    → read ≡ Ok n → 1 ≤ n → n ≤ most
    → Some n ≡ number_of most word
number_read word most n read parses plain few is some no_more =
    let so = rw is at (parse_plain digits_model 64 word read parses plain) in
    rw (le-leb (length word) 5 few, so.0.0, ← so.1, le-leb 1 n some, le-leb n most no_more) refl

no_number : (few digits rest : Bool) (n : ℕ) → (digits ≡ true → ⊥)
    → None ≡ (if few && (digits && rest) then Some n else None)
no_number true true rest n other = absurd (other refl)
no_number true false rest n other = refl
no_number false digits rest n other = refl

-- a word of which none is read
pub none_read : {E : Type 0} (word : List ℕ) (most : ℕ) (read : Result ℕ E) (error : E) → ParsesUnsigned 64 10 word read
    → get_or word 0 0 ≢ 43 → length word ≤ 5 → read ≡ Err error → None ≡ number_of most word
none_read [] most read error parses plain few is = refl
none_read (c ∷ cs) most read error parses plain few is =
    let so = rw is at (parse_plain digits_model 64 (c ∷ cs) read parses plain) in
    no_number _ _ _ _
    (λ digits. so (digits, omega arith, omega (arith, digits_value_short digits_model (c ∷ cs) 5 digits few)))

-- ---- what is known of it

pub none_some : {A : Type 0} (a : A) → None ≡ Some a → ⊥
none_some a e = cc

some_if : (few digits within : Bool) (v n : ℕ) → (if few && (digits && within) then Some v else None) ≡ Some n
    → (within ≡ true) × (v ≡ n)
some_if true true true v n is = (refl, cc)
some_if true true false v n is = absurd (none_some n is)
some_if true false within v n is = absurd (none_some n is)
some_if false digits within v n is = absurd (none_some n is)

-- a number that a word names is from 1 to the most
pub number_within : (most : ℕ) (word : List ℕ) (n : ℕ) → number_of most word ≡ Some n
    → (nat_le 1 n && nat_le n most) ≡ true
number_within most word n is =
    let value = digits_value 10 word in
    let so = some_if (nat_le (length word) 5) (all_ascii_digits word) (nat_le 1 value && nat_le value most) value n is in
    rw so.1 at so.0
