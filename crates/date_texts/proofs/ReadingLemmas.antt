-- Reading finds the numbers and years that the grammar relates to a text, and nothing else. The lemmas on the three
-- grammars stand on this file.
use Rattle.std.proofs.Common.{◌≡◌, ℕ, zero, suc, ◌+◌, ◌-◌, ◌*◌, ◌^◌, ◌≤◌, ◌<◌, Bool, true, false, List, [], ◌∷◌, ◌++◌}
use Rattle.std.proofs.Common.{length, ◌==◌, refl, sym, subst, ap, ◌∙◌, arith, IsTrue, cond, Option, Some, None, add-one}
use Rattle.std.proofs.Common.{append-nil, ℤ, pos, neg_ℤ, rules, get_or, take, drop, negsuc, replicate, length-append}
use Rattle.std.proofs.Common.{fold}
use Rattle.std.proofs.lemmas.Fmt.{digits_decimal, digits_value-decimal, length-decimal-le, decimal_nonempty}
use Rattle.std.proofs.lemmas.Str.Parse.{IsNumeralModel, digits_value_short, numerals_by_fold}
use Rattle.std.proofs.Math.Nat.{pow-le-pow_right, pow-succ'}
use Rattle.date_texts.specs.Joined.{Joined}
use Rattle.date_texts.specs.private.Reading.{digits_at, number_at, after_byte, part_at, year_at, all_read, signed_year}
use Rattle.date_texts.specs.private.Reading.{◌>>=◌}
use Rattle.std.proofs.Math.Seq.{take-length}
use Rattle.date_texts.proofs.Common.{and_parts, canonical_year, decimal, ints, is_ascii_digit, IsBetween, IsNumeral}
use Rattle.date_texts.proofs.Common.{IsYear, IsYearText, length-replicate, list_all, minus, nat_tests, padded, plain}

-- ASCII digits alone
abbrev pub all_digits : List ℕ → Bool
all_digits text = list_all is_ascii_digit text

-- the number that digits spell in decimal, after the digits of n
abbrev pub value_after : ℕ → List ℕ → ℕ
value_after n text = fold (λ value digit. 10 * value + (digit - 48)) n text

-- a text that does not begin with a digit
abbrev pub NoDigitFirst : List ℕ → Type 0
NoDigitFirst [] = Unit {0}
NoDigitFirst (c ∷ cs) = is_ascii_digit c ≡ false

pub digits_stop : (k n : ℕ) (x : List ℕ) → NoDigitFirst x → digits_at k n x ≡ (n, x)
digits_stop zero n x h = refl
digits_stop (suc k) n [] h = refl
digits_stop (suc k) n (c ∷ cs) h = rw h

-- a digit is read, and then the others
pub digits_step : (k n : ℕ) (bytes : List ℕ) → 1 ≤ k → 1 ≤ length bytes → is_ascii_digit (get_or bytes 0 0) ≡ true
    → digits_at (k - 1) (10 * n + (get_or bytes 0 0 - 48)) (take (length bytes - 1) (drop 1 bytes)) ≡ digits_at k n
    bytes
digits_step k n [] some long e = absurd (omega arith)
digits_step zero n (c ∷ cs) some long e = absurd (omega arith)
digits_step (suc k) n (c ∷ cs) some long e =
    let less : suc k - 1 ≡ k = omega arith in
    let whole : length (c ∷ cs) - 1 ≡ length cs = omega arith in
    rw (less, whole, take-length, e) refl

-- digits and then no digit are read to the last digit
digits_take : (k n : ℕ) (ds x : List ℕ) → IsTrue (all_digits ds) → length ds ≤ k → NoDigitFirst x
    → digits_at k n (ds ++ x) ≡ (value_after n ds, x)
digits_take k n [] x h few stop = digits_stop k n x stop
digits_take zero n (c ∷ cs) x h few stop = absurd (omega arith)
digits_take (suc k) n (c ∷ cs) x h few stop =
    let both = and_parts (is_ascii_digit c) (all_digits cs) h in
    rw both.0 (digits_take k (10 * n + (c - 48)) cs x both.1 (omega arith) stop)

-- what was read is digits
abbrev AreRead : ℕ → ℕ → List ℕ → ℕ × List ℕ → Type 0
AreRead k n bytes r =
    (ds : List ℕ) × IsTrue (all_digits ds) × (length ds ≤ k) × (bytes ≡ ds ++ r.1) × (r.0 ≡ value_after n ds)

digits_read_by : (k n c : ℕ) (cs : List ℕ) (b : Bool) → is_ascii_digit c ≡ b
    → AreRead k (10 * n + (c - 48)) cs (digits_at k (10 * n + (c - 48)) cs)
    → AreRead (suc k) n (c ∷ cs) (digits_at (suc k) n (c ∷ cs))
digits_read_by k n c cs true e (ds, digits, few, joined, value) =
    rw e (c ∷ ds, rw e digits, omega arith, ap (λ t. c ∷ t) joined, value)
digits_read_by k n c cs false e h = rw e ([], refl, omega arith, refl, refl)

digits_read : (k n : ℕ) (bytes : List ℕ) → AreRead k n bytes (digits_at k n bytes)
digits_read zero n bytes = ([], refl, omega arith, refl, refl)
digits_read (suc k) n [] = ([], refl, omega arith, refl, refl)
digits_read (suc k) n (c ∷ cs) = digits_read_by k n c cs (is_ascii_digit c) refl (digits_read k (10 * n + (c - 48)) cs)

-- a number of the digits that are read so far fits, and with each digit ten times as much does
ten_more : (m : ℕ) → 1 ≤ m → m ≤ 4 → 10 ^ (5 - (m - 1)) ≡ 10 * 10 ^ (5 - m)
ten_more m low high = let e : 5 - (m - 1) ≡ suc (5 - m) = omega arith in rw e (pow-succ' 10 (5 - m))

at_least_ten : (m : ℕ) → m ≤ 4 → 10 ≤ 10 ^ (5 - m)
at_least_ten m high = let few : 1 ≤ 5 - m = omega arith in pow-le-pow_right {n = 10} (omega arith) few

pub digit_value_small : (c : ℕ) (b : Bool) → b ≡ true → b ≡ is_ascii_digit c → c - 48 ≤ 9
digit_value_small c b t e = grind (arith, nat_tests)

pub fits_more : (m n c : ℕ) (b : Bool) → 1 ≤ m → m ≤ 4 → n < 10 ^ (5 - m) → b ≡ true → b ≡ is_ascii_digit c
    → 10 * n + (c - 48) < 10 ^ (5 - (m - 1))
fits_more m n c b low high h t e = omega (arith, ten_more m low high, digit_value_small c b t e)

pub fits_first : (m c : ℕ) (b : Bool) → m ≤ 4 → b ≡ true → b ≡ is_ascii_digit c → c - 48 < 10 ^ (5 - m)
fits_first m c b high t e = omega (arith, at_least_ten m high, digit_value_small c b t e)

-- ---- readers
pub bind_some : {A B : Type 0} (o : Option A) (f : A → Option B) (y : B) → (o >>= f) ≡ Some y
    → (x : A) × (o ≡ Some x) × (f x ≡ Some y)
bind_some (Some x) f y e = (x, refl, e)
bind_some None f y e = absurd (cc)

pub some_inside : {A : Type 0} {x y : A} → Some x ≡ Some y → x ≡ y
some_inside e = cc

pub none_some : {A : Type 0} {x : A} → None ≡ Some x → ⊥
none_some e = cc

-- a reader finds at the front what a grammar relates to a value, and nothing else; where no digit follows, it reads
-- that to its end
pub record Reads {A : Type 0} (read : List ℕ → Option (A × List ℕ)) (IsText : List ℕ → A → Type 0) : Type 0 where
  pub found : (bytes : List ℕ) (x : A × List ℕ) → read bytes ≡ Some x
      → (text : List ℕ) × IsText text x.0 × (bytes ≡ text ++ x.1)
  pub taken : (text rest : List ℕ) (x : A) → IsText text x → NoDigitFirst rest → read (text ++ rest) ≡ Some (x, rest)

byte_read : (b : ℕ) (bytes rest : List ℕ) → after_byte b bytes ≡ Some rest → bytes ≡ b ∷ rest
unfolding after_byte
byte_read b [] rest e = absurd (cc)
byte_read b (c ∷ cs) rest e = grind (arith, nat_tests, some_inside)

byte_taken : (b : ℕ) (rest : List ℕ) → after_byte b (b ∷ rest) ≡ Some rest
unfolding after_byte
byte_taken b rest = grind (arith, nat_tests)

all_is_read : {A : Type 0} (bytes : List ℕ) (x y : A) → all_read bytes x ≡ Some y → (bytes ≡ []) × (x ≡ y)
all_is_read [] x y e = (refl, cc)
all_is_read (c ∷ cs) x y e = absurd (cc)

module _ {A C : Type 0} {read : List ℕ → Option (A × List ℕ)} {IsText : List ℕ → A → Type 0}
    (is : Reads read IsText) where
  -- a part, the byte behind it, and what is read then
  pub part_found : (b : ℕ) (next : A × List ℕ → Option C) (bytes : List ℕ) (y : C)
      → (part_at read b bytes >>= next) ≡ Some y
      → (x : A) × Joined b (λ text. IsText text x) (λ rest. next (x, rest) ≡ Some y) bytes
  unfolding part_at
  part_found b next bytes y e = search (rules, bind_some, some_inside, byte_read)

  pub part_taken : (b : ℕ) (next : A × List ℕ → Option C) (bytes : List ℕ) (y : C) (x : A) → is_ascii_digit b ≡ false
      → Joined b (λ text. IsText text x) (λ rest. next (x, rest) ≡ Some y) bytes
      → (part_at read b bytes >>= next) ≡ Some y
  unfolding part_at
  part_taken b next bytes y x stop (text, rest, is_text, then, joined) = search (rules, byte_taken)

  -- a part, and nothing behind it
  pub last_found : (make : A → C) (bytes : List ℕ) (y : C) → (read bytes >>= λ x. all_read x.1 (make x.0)) ≡ Some y
      → (x : A) × IsText bytes x × (make x ≡ y)
  last_found make bytes y e = search (rules, bind_some, all_is_read, append-nil)

  pub last_taken : (make : A → C) (bytes : List ℕ) (x : A) → IsText bytes x
      → (read bytes >>= λ x. all_read x.1 (make x.0)) ≡ Some (make x)
  last_taken make bytes x is_text = rw (rw append-nil at (is.taken bytes [] x is_text tt)) refl

-- ---- numbers
number_read_by : (more c : ℕ) (cs : List ℕ) (b : Bool) → is_ascii_digit c ≡ b
    → (x : ℕ × List ℕ) → cond b (Some (digits_at more (c - 48) cs)) None ≡ Some x
    → (text : List ℕ) × IsNumeral (suc more) text x.0 × (c ∷ cs ≡ text ++ x.1)
number_read_by more c cs true eb x e =
    let (ds, digits, few, joined, value) = digits_read more (c - 48) cs in
    let from_zero : c - 48 ≡ 10 * 0 + (c - 48) = omega arith in
    subst (λ (y : ℕ × List ℕ). (text : List ℕ) × IsNumeral (suc more) text y.0 × (c ∷ cs ≡ text ++ y.1))
    (some_inside e) (
      c ∷ ds,
      record {
        some = omega arith;
        few = omega arith;
        digits = rw eb digits;
        value = value ∙ ap (λ k. value_after k ds) from_zero;
      },
      ap (λ t. c ∷ t) joined,
    )
number_read_by more c cs false eb x e = absurd (cc)

number_read : (more : ℕ) (bytes : List ℕ) (x : ℕ × List ℕ) → number_at more bytes ≡ Some x
    → (text : List ℕ) × IsNumeral (suc more) text x.0 × (bytes ≡ text ++ x.1)
unfolding number_at
number_read more [] x e = absurd (cc)
number_read more (c ∷ cs) x e = number_read_by more c cs (is_ascii_digit c) refl x e

number_take : (more : ℕ) (ds x : List ℕ) (n : ℕ) → IsNumeral (suc more) ds n → NoDigitFirst x
    → number_at more (ds ++ x) ≡ Some (n, x)
unfolding number_at
number_take more [] x n h stop = absurd (omega (arith, h.some))
number_take more (c ∷ cs) x n h stop = search (rules, and_parts, all_digits, digits_take, value_after)

pub numbers : (more : ℕ) → Reads (number_at more) (IsNumeral (suc more))
numbers more = record { found = number_read more; taken = number_take more }

own : IsNumeralModel (λ ds. IsTrue (all_digits ds)) (value_after 0)
own = numerals_by_fold _ (search rules) value_after (search rules)

pub numeral_below : {most n : ℕ} {text : List ℕ} → IsNumeral most text n → n < 10 ^ most
numeral_below {most = most} {text = text} h = rw h.value (digits_value_short own text most h.digits h.few)

pub digits_below : (more c : ℕ) (cs : List ℕ) (r : ℕ × List ℕ) (b : Bool) → b ≡ true → b ≡ is_ascii_digit c
    → r ≡ digits_at more (c - 48) cs → r.0 < 10 ^ (more + 1)
digits_below more c cs r b t e same =
    rw (add-one, same) (numeral_below (number_read_by more c cs true (sym e ∙ t) _ refl).1)

-- ---- years
year_read_by : (bytes : List ℕ) (o : Option (List ℕ)) → after_byte 45 bytes ≡ o → (x : ℤ × List ℕ)
    → signed_year o bytes ≡ Some x → (text : List ℕ) × IsYearText text x.0 × (bytes ≡ text ++ x.1)
year_read_by bytes (Some rest) eo x e =
    let n = bind_some (number_at 4 rest) _ x e in
    let (ds, is, joined) = number_read 4 rest n.0 n.1 in
    subst (λ (y : ℤ × List ℕ). (text : List ℕ) × IsYearText text y.0 × (bytes ≡ text ++ y.1)) (some_inside n.2)
    (45 ∷ ds, minus is, byte_read 45 bytes rest eo ∙ ap (λ t. 45 ∷ t) joined)
year_read_by bytes None eo x e =
    let n = bind_some (number_at 4 bytes) _ x e in
    let (ds, is, joined) = number_read 4 bytes n.0 n.1 in
    subst (λ (y : ℤ × List ℕ). (text : List ℕ) × IsYearText text y.0 × (bytes ≡ text ++ y.1)) (some_inside n.2)
    (ds, plain is, joined)

year_read : (bytes : List ℕ) (x : ℤ × List ℕ) → year_at bytes ≡ Some x
    → (text : List ℕ) × IsYearText text x.0 × (bytes ≡ text ++ x.1)
unfolding year_at
year_read bytes x e = year_read_by bytes (after_byte 45 bytes) refl x e

digit_no_dash : (c : ℕ) → is_ascii_digit c ≡ true → (c == 45) ≡ false
digit_no_dash c h = grind (arith, nat_tests)

year_take : (text x : List ℕ) (z : ℤ) → IsYearText text z → NoDigitFirst x → year_at (text ++ x) ≡ Some (z, x)
unfolding year_at after_byte
year_take [] x z (plain {n = n} h) stop = absurd (omega (arith, h.some))
year_take (c ∷ cs) x z (plain {n = n} h) stop =
    rw (digit_no_dash c (and_parts (is_ascii_digit c) (all_digits cs) h.digits).0, number_take 4 (c ∷ cs) x n h stop)
year_take text x z (minus {text = ds} {n = n} h) stop = rw (number_take 4 ds x n h stop)

pub years : Reads year_at IsYearText
years = record { found = year_read; taken = year_take }

pub year_in : {text : List ℕ} {z : ℤ} → IsYearText text z → IsYear z
year_in (plain h) = omega (arith, ints, numeral_below h)
year_in (minus h) = omega (arith, ints, numeral_below h)

-- ---- the canonical text is in the grammar
zeros_value : (k : ℕ) (ds : List ℕ) → value_after 0 (replicate k 48 ++ ds) ≡ value_after 0 ds
zeros_value zero ds = refl
zeros_value (suc k) ds = zeros_value k ds

zeros_digits : (k : ℕ) (ds : List ℕ) → IsTrue (all_digits ds) → IsTrue (all_digits (replicate k 48 ++ ds))
zeros_digits zero ds h = h
zeros_digits (suc k) ds h = zeros_digits k ds h

pub padded_numeral : (width most n : ℕ) → width ≤ most → n < 10 ^ most → n < 100_000 → 1 ≤ most
    → IsNumeral most (padded width n) n
padded_numeral width most n fits small less one =
    let short : length (decimal n) ≤ most = length-decimal-le most n one small (omega arith) in
    let some : 0 < length (decimal n) = decimal_nonempty n (omega arith) in
    record {
      some = simp (length-append, length-replicate) (omega (arith, some));
      few = simp (length-append, length-replicate) (omega (arith, short));
      digits = zeros_digits (width - length (decimal n)) (decimal n) (digits_decimal own n (omega arith));
      value = sym (zeros_value (width - length (decimal n)) (decimal n) ∙ digits_value-decimal own n (omega arith));
    }

pub year_is_year : (z : ℤ) → IsBetween (neg_ℤ (pos 99_999)) (pos 99_999) z → IsYearText (canonical_year z) z
year_is_year (pos n) h =
    plain (padded_numeral 4 5 n (omega arith) (omega (arith, ints, h)) (omega (arith, ints, h)) (omega arith))
year_is_year (negsuc n) h =
    minus (padded_numeral 4 5 (suc n) (omega arith) (omega (arith, ints, h)) (omega (arith, ints, h)) (omega arith))

pub decimal_numeral : (most n : ℕ) → n < 10 ^ most → n < 100_000 → 1 ≤ most → IsNumeral most (decimal n) n
decimal_numeral most n small less one = grind (arith, ints, padded_numeral 0 most n (omega arith) small less one)
