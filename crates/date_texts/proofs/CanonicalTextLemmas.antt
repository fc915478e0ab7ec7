-- Canonical texts: they are in the grammar, they consist of digits, letters, dashes and dots, and they are short.
use Rattle.std.proofs.Common.{◌≡◌, ℕ, ◌+◌, ◌≤◌, Bool, true, false, List, [], ◌∷◌, ◌++◌, length, IsTrue, ℤ, refl, arith}
use Rattle.std.proofs.Common.{length-append, ◌||◌, ◌==◌, reverse, map}
use Rattle.solar_calendars.specs.declared.roman_date.RomanName.TheVariants.{Kalends, Nones, Ides, SecondSixth}
use Rattle.date_texts.specs.declared.grammar.Grammar.TheVariants.{Week}
use Rattle.date_texts.specs.RomanText.{IsNameText, canonical_name, of_ides, of_kalends, of_nones, of_second_sixth}
use Rattle.date_texts.specs.CivilText.{canonical_civil, capital_week, IsCivilText, of_month}
use Rattle.date_texts.proofs.Common.{and_parts, Calendar, calendar_of_date, canonical_text, canonical_year, Civil}
use Rattle.date_texts.proofs.Common.{count_of, Date, decimal, Grammar, grammar, is_ascii_alphanumeric, is_ascii_digit}
use Rattle.date_texts.proofs.Common.{is_plain, IsCivil, IsNumeral, Iso, IsYearText, list_all, list_all-append, Long}
use Rattle.date_texts.proofs.Common.{Longcount, minus, nat_tests, padded, plain, reverse-append, reverse-reverse, Roman}
use Rattle.date_texts.proofs.Common.{RomanCalendar, RomanName, SaysDate, trim_start, trimmed, Ymd}
use Rattle.date_texts.proofs.ReadingLemmas.{decimal_numeral, padded_numeral, year_is_year}

-- ---- they are in the grammar
two_digits : (n : ℕ) → n ≤ 99 → IsNumeral 2 (padded 2 n) n
two_digits n h = padded_numeral 2 2 n (omega arith) (omega arith) (omega arith) (omega arith)

pub short : (n : ℕ) → n ≤ 99 → IsNumeral 2 (decimal n) n
short n h = decimal_numeral 2 n (omega arith) (omega arith) (omega arith)

pub place : (n : ℕ) → n ≤ 9_999 → IsNumeral 4 (decimal n) n
place n h = decimal_numeral 4 n (omega arith) (omega arith) (omega arith)

civil_says : (c : Calendar) (d : Ymd) → IsCivil c
    → IsCivilText (grammar c) (canonical_civil (grammar c) d.year d.month d.day) d.year d.month d.day
civil_says Longcount d h = absurd (h.0 refl)
civil_says RomanCalendar d h = absurd (h.1 refl)
civil_says Iso d h = (
  canonical_year d.year,
  _,
  year_is_year d.year d.year_in,
  (_, _, capital_week (two_digits d.month d.month_in), short d.day d.day_in, refl),
  refl,
)
civil_says c d h = (
  canonical_year d.year,
  _,
  year_is_year d.year d.year_in,
  (_, _, of_month (two_digits d.month d.month_in), two_digits d.day d.day_in, refl),
  refl,
)

name_says : (name : RomanName) → count_of name ≤ 99 → IsNameText (canonical_name name) name
name_says (Kalends n) h = of_kalends refl (short n h)
name_says (Nones n) h = of_nones refl (short n h)
name_says (Ides n) h = of_ides refl (short n h)
name_says SecondSixth h = of_second_sixth refl

pub canonical_says : (date : Date) → SaysDate (calendar_of_date date) (canonical_text date) date
canonical_says (Civil d) = (refl, civil_says d.calendar d.ymd d.civil)
canonical_says (Long n) =
    let (p, q, r, s, t) = n.places in
    let texts = map decimal (n.baktun ∷ n.katun ∷ n.tun ∷ n.uinal ∷ n.kin ∷ []) in
    (refl, (texts, (place _ p, (place _ q, (place _ r, (place _ s, (place _ t, tt))))), refl))
canonical_says (Roman d) = (
  refl,
  (
    canonical_year d.year,
    _,
    year_is_year d.year d.year_in,
    (_, _, two_digits d.month d.month_in, name_says d.name d.count_in, refl),
    refl,
  ),
)

-- ---- they consist of digits, letters, dashes and dots, and are short
abbrev pub is_mark : ℕ → Bool
is_mark c = is_ascii_alphanumeric c || ((c == 45) || (c == 46))

abbrev pub AreMarks : List ℕ → Type 0
AreMarks text = IsTrue (list_all is_mark text)

-- what passes one test passes another
all_pass : (p q : ℕ → Bool) → ((c : ℕ) → p c ≡ true → q c ≡ true) → (text : List ℕ)
    → IsTrue (list_all p text) → IsTrue (list_all q text)
all_pass p q more [] h = refl
all_pass p q more (c ∷ cs) h =
    let both = and_parts (p c) (list_all p cs) h in rw (more c both.0) (all_pass p q more cs both.1)

-- a text of marks, and of so many bytes at most
pub record IsShort (most : ℕ) (text : List ℕ) : Type 0 where
  pub marks : AreMarks text
  pub few : length text ≤ most

digit_mark : (c : ℕ) → is_ascii_digit c ≡ true → is_mark c ≡ true
digit_mark c h = grind (arith, nat_tests)

pub numeral_short : {most n : ℕ} {ds : List ℕ} → IsNumeral most ds n → IsShort most ds
numeral_short {ds = ds} h = record { marks = all_pass is_ascii_digit is_mark digit_mark ds h.digits; few = h.few }

then : {b : ℕ} {ys : List ℕ} (c : ℕ) → is_mark c ≡ true → IsShort b ys → IsShort (b + 1) (c ∷ ys)
then c e h = record { marks = rw e h.marks; few = omega (arith, h.few) }

joined : {a b : ℕ} {xs ys : List ℕ} → IsShort a xs → IsShort b ys → IsShort (a + b) (xs ++ ys)
joined {xs = xs} {ys = ys} h g = grind (arith, list_all-append, is_mark, length-append)

wider : {a b : ℕ} {xs : List ℕ} → IsShort a xs → a ≤ b → IsShort b xs
wider h less = record { marks = h.marks; few = omega (arith, h.few) }

year_short : {text : List ℕ} {z : ℤ} → IsYearText text z → IsShort 6 text
year_short (plain h) = wider (numeral_short h) (omega arith)
year_short (minus h) = then 45 refl (numeral_short h)

civil_short : (g : Grammar) (d : Ymd) → IsShort 13 (canonical_civil g d.year d.month d.day)
civil_short Week d =
    let week = joined (numeral_short (two_digits d.month d.month_in))
    (then 45 refl (numeral_short (short d.day d.day_in))) in
    joined (year_short (year_is_year d.year d.year_in)) (then 45 refl (then 87 refl week))
civil_short g d =
    let month = joined (numeral_short (two_digits d.month d.month_in))
    (then 45 refl (numeral_short (two_digits d.day d.day_in))) in
    wider (joined (year_short (year_is_year d.year d.year_in)) (then 45 refl month)) (omega arith)

name_short : (name : RomanName) → count_of name ≤ 99 → IsShort 3 (canonical_name name)
name_short (Kalends n) h = then 75 refl (numeral_short (short n h))
name_short (Nones n) h = then 78 refl (numeral_short (short n h))
name_short (Ides n) h = then 73 refl (numeral_short (short n h))
name_short SecondSixth h = record { marks = refl; few = omega arith }

-- a long count has up to 24 bytes, and any other date up to 13
abbrev pub most_of : Date → ℕ
most_of (Long n) = 24
most_of date = 13

pub canonical_short : (date : Date) → IsShort (most_of date) (canonical_text date)
canonical_short (Civil d) = civil_short (grammar d.calendar) d.ymd
canonical_short (Long n) =
    let (p, q, r, s, t) = n.places in
    joined (numeral_short (place n.baktun p)) (then 46 refl (joined (numeral_short (place n.katun q)) (then 46 refl
    (joined (numeral_short (place n.tun r)) (then 46 refl (joined (numeral_short (place n.uinal s)) (then 46 refl
    (numeral_short (place n.kin t)))))))))
canonical_short (Roman d) =
    let month = joined (numeral_short (two_digits d.month d.month_in)) (then 45 refl (name_short d.name d.count_in)) in
    joined (year_short (year_is_year d.year d.year_in)) (then 45 refl month)

-- ---- so they have no blanks at their ends
mark_no_blank : (c : ℕ) → is_mark c ≡ true → ((c == 32) || (c == 9)) ≡ false
mark_no_blank c h = grind (arith, nat_tests)

start_stays : (text : List ℕ) → AreMarks text → trim_start text ≡ text
start_stays [] h = refl
start_stays (c ∷ cs) h = rw (mark_no_blank c (and_parts (is_mark c) (list_all is_mark cs) h).0)

reversed : (text : List ℕ) → AreMarks text → AreMarks (reverse text)
reversed [] h = refl
reversed (c ∷ cs) h =
    let both = and_parts (is_mark c) (list_all is_mark cs) h in
    rw (reverse-append (c ∷ []) cs, list_all-append is_mark (reverse cs) (c ∷ []), reversed cs both.1, both.0) refl

pub canonical_trimmed : (date : Date) → trimmed (canonical_text date) ≡ canonical_text date
canonical_trimmed date = grind (arith, canonical_short, start_stays, reversed, reverse-reverse)

-- ---- and each byte is plain
mark_plain : (c : ℕ) → is_mark c ≡ true → is_plain c ≡ true
mark_plain c h = grind (arith, nat_tests)

pub marks_plain : (text : List ℕ) → AreMarks text → IsTrue (list_all is_plain text)
marks_plain text h = all_pass is_mark is_plain mark_plain text h

pub canonical_plain : (date : Date) → IsTrue (list_all is_plain (canonical_text date))
canonical_plain date = marks_plain (canonical_text date) (canonical_short date).marks
