-- Numbers and items are read from the left.
use Rattle.std.proofs.Common.{◌≡◌, ◌≢◌, ℕ, zero, suc, ◌+◌, ◌-◌, ◌*◌, ◌^◌, ◌≤◌, ◌<◌, Bool, true, false, List, [], ◌∷◌}
use Rattle.std.proofs.Common.{◌&&◌, length, refl, sym, ap, ◌∙◌, arith, get_or, take, drop, nat_le}
use Rattle.std.proofs.Common.{Option, Some, None, lit<, add-one, ◌==◌}
use Rattle.std.proofs.Math.Nat.{pow-le-pow_right, pow-succ'}
use Rattle.std.specs.Char.{is_ascii_digit}
use Rattle.std.specs.List.{list_all}
use Rattle.std.proofs.lemmas.List.{take_more}
use Rattle.std.proofs.lemmas.List.Folds.{list_all_more}
use Rattle.std.proofs.lemmas.List.Sums.{fold-append}
use Rattle.std.proofs.lemmas.Bool.Decides.{nat_tests}
use Rattle.written_dates.specs.declared.items.Number.{Number}
use Rattle.written_dates.specs.declared.meanings.Meaning.{Meaning}
use Rattle.written_dates.specs.declared.meanings.Meaning.TheVariants.{Nothing}
use Rattle.written_dates.specs.declared.meanings.Name.{Name}
use Rattle.written_dates.specs.Tokens.{Piece}
use Rattle.written_dates.specs.Items.{spelled, number_of_digits, number_of, longest, items, items_behind, item_in_front}
use Rattle.written_dates.specs.Items.{before, meant, alone}

-- ---- numbers
pub room_for_digit : (v i : ℕ) → v < 10 ^ i → i < 9 → 10 * v + 9 < 2 ^ 32
room_for_digit v i h few =
    let low : i ≤ 8 = omega arith in
    let most : 10 ^ i ≤ 10 ^ 8 = pow-le-pow_right (lit< tt) low in omega (arith, most)

pub small_grows : (v i d : ℕ) → v < 10 ^ i → d < 10 → 10 * v + d < 10 ^ (i + 1)
small_grows v i d h few = let next : 10 ^ (i + 1) ≡ 10 * 10 ^ i = rw add-one (pow-succ' 10 i) in omega (arith, next)

pub digit_small : (c : ℕ) → is_ascii_digit c ≡ true → c - 48 < 10
digit_small c h = grind (arith, nat_tests)

pub spelled_more : (text : List ℕ) (i : ℕ) → i < length text
    → spelled (take (i + 1) text) ≡ 10 * spelled (take i text) + (get_or text i 0 - 48)
spelled_more text i h =
    ap spelled (take_more text i 0 h)
    ∙ fold-append (λ value digit. 10 * value + (digit - 48)) 0 (take i text) (get_or text i 0 ∷ [])

pub digits_more : (text : List ℕ) (i : ℕ) → i < length text → list_all is_ascii_digit (take i text) ≡ true
    → is_ascii_digit (get_or text i 0) ≡ true → list_all is_ascii_digit (take (i + 1) text) ≡ true
digits_more text i h all one = rw (list_all_more is_ascii_digit text i 0 h, all) one

and_false : (b : Bool) → (b && false) ≡ false
and_false true = refl
and_false false = refl

not_all : (p : ℕ → Bool) (xs : List ℕ) (i : ℕ) → i < length xs → p (get_or xs i 0) ≡ false
    → list_all p xs ≡ false
not_all p [] i h none = absurd (omega arith)
not_all p (x ∷ xs) zero h none = rw none refl
not_all p (x ∷ xs) (suc i) h none = rw (not_all p xs i (omega arith) none) (and_false (p x))

pub no_long_number : (text : List ℕ) → 9 < length text → None ≡ number_of_digits text
unfolding number_of_digits
no_long_number text h = let over : nat_le (length text) 9 ≡ false = grind (arith, nat_tests) in rw over refl

pub no_other_number : (text : List ℕ) (i : ℕ) → i < length text → is_ascii_digit (get_or text i 0) ≡ false
    → None ≡ number_of_digits text
unfolding number_of_digits
no_other_number text i h other =
    let none = not_all is_ascii_digit text i h other in
    rw (none, and_false (nat_le (length text) 9)) refl

pub a_number : (text : List ℕ) (v : ℕ) → length text ≤ 9 → list_all is_ascii_digit text ≡ true → v ≡ spelled text
    → Some (record { value = v; digits = length text; named = false; year = None; day = false }) ≡ number_of_digits text
unfolding number_of_digits
a_number text v few all is =
    let yes : nat_le (length text) 9 ≡ true = grind (arith, nat_tests) in rw (yes, all, is) refl

-- ---- items
-- what is skipped is left out
pub items_skipped : (names : List Name) (more : ℕ) (text : List Piece)
    → items names more text ≡ items names 0 (drop more text)
unfolding items
items_skipped names zero text = refl
items_skipped names (suc more) [] = refl
items_skipped names (suc more) (part ∷ behind) = items_skipped names more behind

-- where no name stands in front, a number must
pub no_name : (names : List Name) (text behind : List Piece) (part : Piece) (n : Option Number) (found : ℕ × Meaning)
    → text ≡ part ∷ behind → found ≡ longest text (0, Nothing) names → found.0 ≡ 0 → n ≡ number_of part
    → items names 0 text ≡ items_behind (alone n) (λ more. items names more behind)
unfolding items item_in_front
no_name names text behind part n found e f z is =
    let start : longest (part ∷ behind) (0, Nothing) names ≡ found = rw (← e) (sym f) in
    rw (e, start, z, is) refl

pub a_name : (names : List Name) (text behind : List Piece) (part : Piece) (found : ℕ × Meaning)
    → text ≡ part ∷ behind → found ≡ longest text (0, Nothing) names → found.0 ≢ 0
    → items names 0 text ≡ before (meant found.1) (items names 0 (drop found.0 text))
unfolding items item_in_front
a_name names text behind part found e f some =
    let start : longest (part ∷ behind) (0, Nothing) names ≡ found = rw (← e) (sym f) in
    let there : (found.0 == 0) ≡ false = grind (arith, nat_tests) in
    let more : found.0 ≡ suc (found.0 - 1) = omega arith in
    let after : drop found.0 (part ∷ behind) ≡ drop (found.0 - 1) behind
    = ap (λ (n : ℕ). drop n (part ∷ behind)) more in
    rw (e, start, there, after, items_skipped names (found.0 - 1) behind) refl

-- ---- lists of items
