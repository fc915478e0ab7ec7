-- The grammar of Roman dates and their canonical text: a year, a month and the Roman name of a day, joined by dashes
-- (45). The year and the month are those of the Kalends, Nones or Ides that the name counts back from.
use Rattle.std.specs.Prelude.{◌≡◌, ℕ, List, ◌∷◌, ◌++◌, codes, ℤ}
use Rattle.std.specs.Char.{to_ascii_lowercase}
use Rattle.std.specs.Str.{str_to_ascii_lowercase}
use Rattle.std.specs.Fmt.{decimal}
use Rattle.solar_calendars.specs.declared.roman_date.RomanName.{RomanName}
use Rattle.solar_calendars.specs.declared.roman_date.RomanName.TheVariants.{Kalends, Nones, Ides, SecondSixth}
use Rattle.date_texts.specs.Buffers.{padded}
use Rattle.date_texts.specs.Joined.{Joined}
use Rattle.date_texts.specs.Numerals.{IsNumeral, IsYearText, canonical_year}

-- the name of a day: the letter k (107), n (110) or i (105) with a count of one or two digits, or k6b, in letters of
-- either case
pub data IsNameText : List ℕ → RomanName → Type 0 where
  of_kalends : {c n : ℕ} {text : List ℕ} → to_ascii_lowercase c ≡ 107 → IsNumeral 2 text n
      → IsNameText (c ∷ text) (Kalends n)
  of_nones : {c n : ℕ} {text : List ℕ} → to_ascii_lowercase c ≡ 110 → IsNumeral 2 text n
      → IsNameText (c ∷ text) (Nones n)
  of_ides : {c n : ℕ} {text : List ℕ} → to_ascii_lowercase c ≡ 105 → IsNumeral 2 text n → IsNameText (c ∷ text) (Ides n)
  of_second_sixth : {text : List ℕ} → str_to_ascii_lowercase text ≡ codes "k6b" → IsNameText text SecondSixth

-- a year, a month and the name of a day
abbrev pub IsRomanText : List ℕ → ℤ → ℕ → RomanName → Type 0
IsRomanText text year month name =
    Joined 45 (λ y. IsYearText y year) (Joined 45 (λ m. IsNumeral 2 m month) (λ n. IsNameText n name)) text

-- K3, N5, I8 or K6B
abbrev pub canonical_name : RomanName → List ℕ
canonical_name (Kalends count) = codes "K" ++ decimal count
canonical_name (Nones count) = codes "N" ++ decimal count
canonical_name (Ides count) = codes "I" ++ decimal count
canonical_name SecondSixth = codes "K6B"

-- 1945-11-K3
abbrev pub canonical_roman : ℤ → ℕ → RomanName → List ℕ
canonical_roman year month name = canonical_year year ++ 45 ∷ (padded 2 month ++ 45 ∷ canonical_name name)
