-- A target and a day have one cell, which is short and plain.
use Rattle.std.proofs.Common.{◌≡◌, ◌≤◌, ℕ, Bool, IsTrue, List, [], Option, Some, None, ℤ, refl, sym, subst, ap, ◌∙◌}
use Rattle.std.proofs.Common.{arith, IfSome, IsSome, zero, suc, ◌+◌, ◌-◌, ◌<◌, ◌&&◌, ◌∷◌, true, length, length-append}
use Rattle.std.proofs.Common.{IsAscii, nat_le}
use Rattle.day_numbers.specs.Days.{IsSinceFirstDay}
use Rattle.solar_calendars.specs.private.IsoWeekLaw.{one_week_date}
use Rattle.solar_calendars.specs.Laws.{OneRomanDate}
use Rattle.maya_calendars.specs.Laws.{HaabDaysInRange, TzolkinNumbersInRange}
use Rattle.day_numbers.specs.Numbered.{name_of_number, words}
use Rattle.day_numbers.proofs.NameLemmas.{each_name}
use Rattle.maya_calendars.specs.HaabNames.{haab_of, month_names}
use Rattle.maya_calendars.specs.TzolkinNames.{name_texts, tzolkin_of}
use Rattle.date_texts.specs.CivilText.{canonical_civil}
use Rattle.date_texts.specs.declared.target.Target.TheVariants.{Date as DateTarget, Haab, Tzolkin}
use Rattle.date_texts.proofs.Common.{and_parts, by_rules, by_weeks, Calendar, calendar_of_date, canonical_long}
use Rattle.date_texts.proofs.Common.{canonical_text, Civil, Date, day_number_by, day_number_of_date, day_since_epoch}
use Rattle.date_texts.proofs.Common.{decimal, first_day_by, grammar, is_plain, IsCell, IsCivil, IsDateBy, IsDateCell}
use Rattle.date_texts.proofs.Common.{IsDateOfCalendar, list_all, list_all-append, Long, Longcount, LongCount, nat_tests}
use Rattle.date_texts.proofs.Common.{no_date, numbered_name, on_date, one_long_count, one_or_two, OneCell, Reckoning}
use Rattle.date_texts.proofs.Common.{reckoning, Roman, rules_have_days, rules_one_date, Target, Ymd}
use Rattle.date_texts.proofs.DateTextLemmas.{civil_same}
use Rattle.date_texts.proofs.CanonicalTextLemmas.{canonical_plain, canonical_short, marks_plain, numeral_short, place}
use Rattle.date_texts.proofs.CanonicalTextLemmas.{short}

-- ---- a calendar has one date on a day, and none before its first day
one_date_by : (r : Reckoning) (d e : Ymd) → IsDateBy r d → IsDateBy r e → day_number_by r d ≡ day_number_by r e → d ≡ e
one_date_by (by_rules rules) d e = rules_one_date rules d e
one_date_by by_weeks d e = one_week_date d e
one_date_by r d e = λ h. elim h [ ]

since_first_day : (r : Reckoning) (d : Ymd) → IsDateBy r d → IsSinceFirstDay (first_day_by r) (day_number_by r d)
since_first_day (by_rules rules) d = rules_have_days rules d
since_first_day by_weeks d = λ h. tt
since_first_day r d = λ h. elim h [ ]

one_date_on_day : OneRomanDate → (n : ℤ) (d e : Date) → calendar_of_date d ≡ calendar_of_date e
    → IsDateOfCalendar d → day_number_of_date d ≡ n → IsDateOfCalendar e → day_number_of_date e ≡ n → d ≡ e
one_date_on_day one n (Civil d) (Civil e) same h i g j =
    let h' : IsDateBy (reckoning e.calendar) d.ymd = subst (λ x. IsDateBy (reckoning x) d.ymd) same h in
    let i' : day_number_by (reckoning e.calendar) d.ymd ≡ n =
    subst (λ x. day_number_by (reckoning x) d.ymd ≡ n) same i in
    ap Civil (civil_same d e same (one_date_by (reckoning e.calendar) d.ymd e.ymd h' g (i' ∙ sym j)))
one_date_on_day one n (Long d) (Long e) same h i g j = ap Long (one_long_count d e h g (i ∙ sym j))
one_date_on_day one n (Roman d) (Roman e) same h i g j = ap Roman (one d e h g (i ∙ sym j))
one_date_on_day one n (Civil d) e same h i g j = absurd (grind (arith, d.civil.0, d.civil.1))
one_date_on_day one n d (Civil e) same h i g j = absurd (grind (arith, e.civil.0, e.civil.1))
one_date_on_day one n d e same h i g j = absurd (cc)

since_first : (n : ℤ) (d : Date) → IsDateOfCalendar d → day_number_of_date d ≡ n
    → IsSinceFirstDay (first_day_by (reckoning (calendar_of_date d))) n
since_first n (Civil d) h i =
    subst (IsSinceFirstDay (first_day_by (reckoning d.calendar))) i (since_first_day (reckoning d.calendar) d.ymd h)
since_first n (Long d) h i = subst (IsSinceFirstDay (first_day_by (reckoning Longcount))) i (day_since_epoch d)
since_first n (Roman d) h i = tt

-- a calendar has no date before its first day
pub since_first_in : (c : Calendar) (n : ℤ) (d : Date) → calendar_of_date d ≡ c → IsDateOfCalendar d
    → day_number_of_date d ≡ n → IsSinceFirstDay (first_day_by (reckoning c)) n
since_first_in c n d p h i = subst (λ x. IsSinceFirstDay (first_day_by (reckoning x)) n) p (since_first n d h i)

-- a date that was found
pub found_date : (found : Option Date) (Is : Date → Type 0) → IsSome found → IfSome found Is → (date : Date) × Is date
found_date (Some date) Is some is = (date, is)
found_date None Is some is = absurd (cc)

one_date_cell : OneRomanDate → (c : Calendar) (n : ℤ) (x y : List ℕ) → IsDateCell c n x → IsDateCell c n y → x ≡ y
one_date_cell one c n x y (on_date d p h i e) (on_date d' p' h' i' e') =
    e ∙ ap canonical_text (one_date_on_day one n d d' (p ∙ sym p') h i h' i') ∙ sym e'
one_date_cell one c n x y (on_date d p h i e) (no_date none e') = absurd (none d p h i)
one_date_cell one c n x y (no_date none e) (on_date d' p' h' i' e') = absurd (none d' p' h' i')
one_date_cell one c n x y (no_date none e) (no_date none' e') = e ∙ sym e'

-- a target and a day have at most one cell
pub one_cell : OneRomanDate → OneCell
one_cell one (DateTarget c) n x y = one_date_cell one c n x y
one_cell one Haab n x y = λ e f. e ∙ sym f
one_cell one Tzolkin n x y = λ e f. e ∙ sym f

-- the canonical text of a year, a month and a day, or of a year, a week and a weekday, is a cell
pub civil_cell_is : (c : Calendar) (n : ℤ) (d : Ymd) (x : List ℕ) → IsCivil c → IsDateBy (reckoning c) d
    → day_number_by (reckoning c) d ≡ n → x ≡ canonical_civil (grammar c) d.year d.month d.day → IsDateCell c n x
civil_cell_is c n d x civil h i e = on_date (Civil (record { calendar = c; ymd = d; civil = civil })) refl h i e

abbrev pub ArePlain : List ℕ → Type 0
ArePlain text = IsTrue (list_all is_plain text)

-- plain bytes are ASCII
plain_below : (c : ℕ) → is_plain c ≡ true → c < 128
plain_below c h = grind (arith, nat_tests)

pub plain_ascii : (text : List ℕ) → ArePlain text → IsAscii text
plain_ascii [] h i = omega arith
plain_ascii (c ∷ cs) h zero = plain_below c (and_parts (is_plain c) (list_all is_plain cs) h).0
plain_ascii (c ∷ cs) h (suc i) = plain_ascii cs (and_parts (is_plain c) (list_all is_plain cs) h).1 i

-- ---- date texts
pub four_digits : (n : ℕ) → n ≤ 9_999 → length (decimal n) ≤ 4
four_digits n small = (place n small).few

long_length : (p q r s t : ℕ) → p ≤ 9_999 → q ≤ 19 → r ≤ 19 → s ≤ 17 → t ≤ 19
    → length (canonical_long p q r s t) ≤ 16
long_length p q r s t a b c d e = grind (arith, length-append, four_digits, one_or_two)

-- and room behind for the row of the last place
pub long_room : (p q r s t : ℕ) → p ≤ 99 → q ≤ 19 → r ≤ 19 → s ≤ 17 → t ≤ 19
    → length (canonical_long p q r s t) + 4 ≤ 16 + length (decimal t)
long_room p q r s t a b c d e = grind (arith, length-append, one_or_two)

pub text_room : (n : LongCount) → length (canonical_text (Long n)) + 4 ≤ 24 + length (decimal n.kin)
text_room n = grind (arith, length-append, four_digits)

date_length : (date : Date) → IsDateOfCalendar date → length (canonical_text date) ≤ 16
date_length (Long n) h = long_length n.baktun n.katun n.tun n.uinal n.kin n.places.0 h.0 h.1 h.2 h.3
date_length date h = omega (arith, (canonical_short date).few)

-- ---- cells: their bytes are digits and letters of ASCII, spaces, dashes and dots, and they have 16 bytes at most
abbrev pub IsCellText : List ℕ → Type 0
IsCellText text = ArePlain text × (length text ≤ 16)

date_cell : (c : Calendar) (n : ℤ) (text : List ℕ) → IsDateCell c n text → IsCellText text
date_cell c n text (on_date date p h i e) = grind (arith, canonical_plain date, date_length date h)
date_cell c n text (no_date none e) = rw e (refl, omega arith)

abbrev is_short : List ℕ → Bool
is_short name = nat_le (length name) 8

short_length : (name : List ℕ) → IsTrue (is_short name) → length name ≤ 8
short_length name h = grind (arith, nat_tests)

pub month_length : (month : ℕ) → length (name_of_number month_names month) ≤ 8
unfolding words
month_length month = short_length _ (each_name is_short month_names (month - 1) refl refl)

pub day_name_length : (place : ℕ) → length (name_of_number name_texts place) ≤ 8
unfolding words
day_name_length place = short_length _ (each_name is_short name_texts (place - 1) refl refl)

abbrev is_name : List ℕ → Bool
is_name name = list_all is_plain name && is_short name

numbered : (number : ℕ) (name : List ℕ) → number ≤ 99 → IsTrue (is_name name)
    → IsCellText (numbered_name number name)
numbered number name small h =
    let both = and_parts (list_all is_plain name) (is_short name) h in (
      rw (
        list_all-append is_plain (decimal number) (32 ∷ name),
        marks_plain _ (numeral_short (short number small)).marks,
        both.0,
      ) refl,
      omega (arith, length-append {A = ℕ}, one_or_two number small, short_length name both.1),
    )

pub cell_text : HaabDaysInRange → TzolkinNumbersInRange → (target : Target) (n : ℤ) (text : List ℕ)
    → IsCell target n text → IsCellText text
unfolding words
cell_text days numbers (DateTarget c) n text h = date_cell c n text h
cell_text days numbers Haab n text h =
    let (day, month) = haab_of n in
    rw h (numbered day _ (omega (arith, days n)) (each_name is_name month_names (month - 1) refl refl))
cell_text days numbers Tzolkin n text h =
    let (number, name) = tzolkin_of n in
    rw h (numbered number _ (omega (arith, numbers n)) (each_name is_name name_texts (name - 1) refl refl))
