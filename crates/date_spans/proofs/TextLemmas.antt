-- A date's text without its day, and without its month.
use Rattle.std.proofs.Common.{◌≡◌, ℕ, ◌+◌, ◌-◌, ◌≤◌, List, ◌∷◌, ◌++◌, length, take, sym, ap, arith, append_assoc}
use Rattle.std.proofs.lemmas.List.{length-append}
use Rattle.std.proofs.Math.Seq.{take-append_seam}
use Rattle.date_texts.specs.Buffers.{padded}
use Rattle.date_texts.proofs.DigitLemmas.{two_digits}
use Rattle.day_numbers.specs.declared.ymd.Ymd.{Ymd}
use Rattle.date_texts.specs.Numerals.{canonical_year}
use Rattle.date_spans.specs.declared.edtf.Precision.TheVariants.{Day, Month, Year}
use Rattle.date_spans.specs.Edtf.{date_text}

two : (n : ℕ) → n ≤ 99 → length (padded 2 n) ≡ 2
two n h = ap length (two_digits n h)

cut_end : (a b : List ℕ) → take (length (a ++ b) - length b) (a ++ b) ≡ a
cut_end a b =
    let n : length (a ++ b) - length b ≡ length a = omega (arith, length-append a b) in rw n (take-append_seam a b)

-- a year, and the month and the day behind it
month_part : Ymd → List ℕ
month_part date = 45 ∷ padded 2 date.month

day_part : Ymd → List ℕ
day_part date = 45 ∷ padded 2 date.day

by_parts : (date : Ymd) → date_text Day date ≡ date_text Month date ++ (45 ∷ padded 2 date.day)
by_parts date = sym (append_assoc (canonical_year date.year) (45 ∷ padded 2 date.month) (45 ∷ padded 2 date.day))

pub sized : (date : Ymd) → date.month ≤ 99 → date.day ≤ 99
    → length (date_text Day date) ≡ length (canonical_year date.year) + 6
sized date m d =
    omega (
      arith,
      length-append (canonical_year date.year) (45 ∷ (padded 2 date.month ++ 45 ∷ padded 2 date.day)),
      length-append (padded 2 date.month) (45 ∷ padded 2 date.day),
      two date.month m,
      two date.day d,
    )

pub by_month : (date : Ymd) → date.day ≤ 99
    → take (length (date_text Day date) - 3) (date_text Day date) ≡ date_text Month date
by_month date d =
    let three : length (45 ∷ padded 2 date.day) ≡ 3 = omega (arith, two date.day d) in
    rw (by_parts date, ← three) (cut_end (date_text Month date) (45 ∷ padded 2 date.day))

pub by_year : (date : Ymd) → date.month ≤ 99 → date.day ≤ 99
    → take (length (date_text Day date) - 6) (date_text Day date) ≡ date_text Year date
by_year date m d =
    let n : length (date_text Day date) - 6 ≡ length (canonical_year date.year) = omega (arith, sized date m d) in
    rw n (take-append_seam (canonical_year date.year) (45 ∷ (padded 2 date.month ++ 45 ∷ padded 2 date.day)))
