-- Reading numbers and years from left to right, as private functions do. It serves those of the three grammars,
-- `CivilReading`, `LongReading` and `RomanReading`: the grammar in `DateText` stands apart from them, and lemmas tie the
-- two.
use Rattle.std.specs.Prelude.{ℕ, zero, suc, ◌+◌, ◌-◌, ◌*◌, List, [], ◌∷◌, Option, Some, None, ℤ, pos, neg_ℤ, ◌==◌}
use Rattle.std.specs.Prelude.{if◌then◌else◌}
use Rattle.std.specs.Char.{is_ascii_digit}
use denote.Bor.{Bor}

-- the number that n and at most so many digits at the front spell, and what follows
abbrev pub digits_at : ℕ → ℕ → List ℕ → ℕ × List ℕ
digits_at zero n bytes = (n, bytes)
digits_at (suc k) n [] = (n, [])
digits_at (suc k) n (c ∷ cs) = if is_ascii_digit c then digits_at k (10 * n + (c - 48)) cs else (n, c ∷ cs)

-- a number of one digit to one more than so many
unfoldable pub number_at : ℕ → List ℕ → Option (ℕ × List ℕ)
number_at more [] = None
number_at more (c ∷ cs) = if is_ascii_digit c then Some (digits_at more (c - 48) cs) else None

infixl 10 ◌>>=◌
abbrev pub ◌>>=◌ : {A B : Type 0} → Option A → (A → Option B) → Option B
(Some x) >>= f = f x
None >>= f = None

-- what follows a byte
unfoldable pub after_byte : ℕ → List ℕ → Option (List ℕ)
after_byte b [] = None
after_byte b (c ∷ cs) = if c == b then Some cs else None

-- what stands before a byte, and what follows the byte
unfoldable pub part_at : {A : Type 0} → (List ℕ → Option (A × List ℕ)) → ℕ → List ℕ → Option (A × List ℕ)
part_at read b bytes = do
  part ← read bytes
  rest ← after_byte b part.1
  Some (part.0, rest)

abbrev pub as_year : ℕ × List ℕ → ℤ × List ℕ
as_year n = (pos n.0, n.1)

abbrev pub as_year_before_zero : ℕ × List ℕ → ℤ × List ℕ
as_year_before_zero n = (neg_ℤ (pos n.0), n.1)

-- a year, of what follows a minus sign, or else of all the bytes
abbrev pub signed_year : Option (List ℕ) → List ℕ → Option (ℤ × List ℕ)
signed_year (Some rest) bytes = number_at 4 rest >>= λ n. Some (as_year_before_zero n)
signed_year None bytes = number_at 4 bytes >>= λ n. Some (as_year n)

unfoldable pub year_at : List ℕ → Option (ℤ × List ℕ)
year_at bytes = signed_year (after_byte 45 bytes) bytes

abbrev pub all_read : {A : Type 0} → List ℕ → A → Option A
all_read [] x = Some x
all_read (c ∷ cs) x = None

-- what a reader returned, without where the rest lies in memory
abbrev pub seen_number : Option (ℕ × Bor (List ℕ)) → Option (ℕ × List ℕ)
seen_number (Some x) = Some (x.0, x.1.now)
seen_number None = None

abbrev pub seen_rest : Option (Bor (List ℕ)) → Option (List ℕ)
seen_rest (Some x) = Some x.now
seen_rest None = None

abbrev pub seen_year : Option (ℤ × Bor (List ℕ)) → Option (ℤ × List ℕ)
seen_year (Some x) = Some (x.0, x.1.now)
seen_year None = None
