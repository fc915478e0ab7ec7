-- The grammar of civil dates and week dates, and their canonical texts: a year, a month and a day, or a year, a week
-- and a weekday, joined by dashes (45), with the letter W before a week, as in ISO 8601.
use Rattle.std.specs.Prelude.{ℕ, List, ◌∷◌, ◌++◌, codes, ℤ}
use Rattle.std.specs.Fmt.{decimal}
use Rattle.date_texts.specs.declared.grammar.Grammar.{Grammar}
use Rattle.date_texts.specs.declared.grammar.Grammar.TheVariants.{Civil, Week}
use Rattle.date_texts.specs.Buffers.{padded}
use Rattle.date_texts.specs.Joined.{Joined}
use Rattle.date_texts.specs.Numerals.{IsNumeral, IsYearText, canonical_year}

-- a month, or a week, which has the letter W of either case before it
pub data IsMonthText : Grammar → List ℕ → ℕ → Type 0 where
  of_month : {text : List ℕ} {n : ℕ} → IsNumeral 2 text n → IsMonthText Civil text n
  capital_week : {text : List ℕ} {n : ℕ} → IsNumeral 2 text n → IsMonthText Week (codes "W" ++ text) n
  small_week : {text : List ℕ} {n : ℕ} → IsNumeral 2 text n → IsMonthText Week (codes "w" ++ text) n

-- a year, a month and a day, or a year, a week and a weekday
abbrev pub IsCivilText : Grammar → List ℕ → ℤ → ℕ → ℕ → Type 0
IsCivilText grammar text year month day =
    Joined 45 (λ y. IsYearText y year) (Joined 45 (λ m. IsMonthText grammar m month) (λ d. IsNumeral 2 d day)) text

-- 2004-W53-6 of a week date, and 1945-11-12
abbrev pub canonical_civil : Grammar → ℤ → ℕ → ℕ → List ℕ
canonical_civil Week year week weekday =
    canonical_year year ++ 45 ∷ (codes "W" ++ (padded 2 week ++ 45 ∷ decimal weekday))
canonical_civil grammar year month day = canonical_year year ++ 45 ∷ (padded 2 month ++ 45 ∷ padded 2 day)
