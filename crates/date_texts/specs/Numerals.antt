-- Numbers and years in date texts: which digits stand for a number, and the digits that it is written with.
use Rattle.std.specs.Prelude.{◌≡◌, ℕ, ◌+◌, ◌-◌, ◌*◌, ◌≤◌, List, ◌∷◌, length, fold}
use Rattle.std.specs.Prelude.{IsTrue, ℤ, pos, negsuc, suc, neg_ℤ}
use Rattle.std.specs.Char.{is_ascii_digit}
use Rattle.std.specs.List.{list_all}
use Rattle.date_texts.specs.Buffers.{padded}

-- one to `most` ASCII digits, and the number that they spell in decimal
pub record IsNumeral (most : ℕ) (text : List ℕ) (n : ℕ) : Type 0 where
  pub some : 1 ≤ length text
  pub few : length text ≤ most
  pub digits : IsTrue (list_all is_ascii_digit text)
  pub value : n ≡ fold (λ value digit. 10 * value + (digit - 48)) 0 text

-- a year: one to five digits, with a minus sign (45) before them where it is negative
pub data IsYearText : List ℕ → ℤ → Type 0 where
  plain : {text : List ℕ} {n : ℕ} → IsNumeral 5 text n → IsYearText text (pos n)
  minus : {text : List ℕ} {n : ℕ} → IsNumeral 5 text n → IsYearText (45 ∷ text) (neg_ℤ (pos n))

-- a year as it is written: at least four digits, after a minus sign where it is negative
abbrev pub canonical_year : ℤ → List ℕ
canonical_year (pos n) = padded 4 n
canonical_year (negsuc n) = 45 ∷ padded 4 (suc n)
