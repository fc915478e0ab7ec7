-- What can be decided of dates: whether a calendar has a date, which date a text says, and which cell a day has. The
-- dates that a `Date` holds are finitely many, so what can be decided of each of them can be decided of all.
use Rattle.std.proofs.Common.{◌≡◌, inl, inr, ℕ, zero, suc, ◌≤◌, List, [], Option, None, Some, refl, sym, subst, ap}
use Rattle.std.proofs.Common.{arith, rules, ℤ, pos, ◌-ℤ◌, ◌+ℤ◌, unsigned_abs, ◌↔◌}
use Rattle.day_numbers.specs.Rules.{Years, from_one, without_zero, HasYear}
use Rattle.solar_calendars.specs.private.RomanPlaces.{HasPlace}
use Rattle.solar_calendars.specs.declared.roman_date.RomanDate.{RomanDate}
use Rattle.solar_calendars.specs.declared.roman_date.RomanName.TheVariants.{Kalends, Nones, Ides, SecondSixth}
use Rattle.date_texts.specs.private.CivilReading.{civil_at}
use Rattle.date_texts.specs.private.LongReading.{long_at}
use Rattle.date_texts.specs.private.RomanReading.{roman_at}
use Rattle.date_texts.specs.declared.target.Target.TheVariants.{Date as DateTarget, Haab, Tzolkin}
use Rattle.date_texts.proofs.Common.{by_rules, by_weeks, Calendar, calendar_name, calendar_of_date, canonical_text}
use Rattle.date_texts.proofs.Common.{Civil, count_of, Date, day_number_of_date, grammar, has_two_sixths, ints, IsCell}
use Rattle.date_texts.proofs.Common.{IsCivil, IsDateBy, IsDateOfCalendar, IsDateText, IsNamed, IsRomanDate, IsYear}
use Rattle.date_texts.proofs.Common.{Long, Longcount, LongCount, month_of, no_date, on_date, placed, props, Reckoning}
use Rattle.date_texts.proofs.Common.{reckoning, Roman, RomanCalendar, RomanName, same_made, SaysDate}
use Rattle.date_texts.proofs.Common.{str_to_ascii_lowercase, Target, trimmed, Ymd}
use Rattle.date_texts.proofs.DateReadingLemmas.{civil_says, month_in, long_says, places_in}
use Rattle.date_texts.proofs.RomanReadingLemmas.{count_in, roman_says}
use Rattle.date_texts.proofs.DateTextLemmas.{civil_same, Parts, none_says, parts_at}
use Rattle.date_texts.proofs.DecisionLemmas.{Is, all_four, all_three, both, in_words, is_at_most, is_integer, is_less_z}
use Rattle.date_texts.proofs.DecisionLemmas.{is_true, some_below}
use Rattle.date_texts.proofs.ReadingLemmas.{bind_some, none_some, numeral_below, year_in}
use Rattle.date_texts.proofs.TargetNameLemmas.{calendar_in, calendar_is_named, named_by_search, target_by_name}

-- ---- whether a calendar has a date
is_year : (years : Years) (y : ℤ) → Is (HasYear years y)
is_year from_one (pos (suc n)) = inl tt
is_year from_one y = inr (λ h. h)
is_year without_zero (pos zero) = inr (λ h. h)
is_year s (pos zero) = inl tt
is_year s y = inl tt

is_date_by : (r : Reckoning) (d : Ymd) → Is (IsDateBy r d)
is_date_by (by_rules rules) d = search (all_three, is_year, is_at_most)
is_date_by by_weeks d =
    all_four (is_at_most 1 d.month) (is_at_most 1 d.day) (is_at_most d.day 7) (is_less_z _ _)
is_date_by r d = inr (λ h. h)

has_place : (year : ℤ) (month : ℕ) (name : RomanName) → Is (HasPlace year month name)
has_place year month (Kalends n) = both (is_at_most 1 n) (is_at_most _ _)
has_place year month (Nones n) = both (is_at_most 1 n) (is_at_most _ _)
has_place year month (Ides n) = both (is_at_most 1 n) (is_at_most n 8)
has_place year month SecondSixth = is_true (has_two_sixths year month)

is_roman_date : (year : ℤ) (month : ℕ) (name : RomanName) → Is (IsRomanDate year month name)
is_roman_date year month name =
    let parts =
    all_four (is_year without_zero year) (is_at_most 1 month) (is_at_most month 12) (has_place year month name) in
    in_words parts
    (λ h. (placed year month name h.0 h.1 h.2).1 h.3)
    (λ r. let h = month_of year month name r in (h.0, h.1, h.2, (placed year month name h.0 h.1 h.2).0 r))

pub is_date_of_calendar : (date : Date) → Is (IsDateOfCalendar date)
is_date_of_calendar (Civil d) = is_date_by (reckoning d.calendar) d.ymd
is_date_of_calendar (Long n) = search (rules, all_four, is_at_most)
is_date_of_calendar (Roman d) = is_roman_date d.year d.month d.name

-- ---- whether some value is as said
abbrev Searchable : Type 0 → Type 1
Searchable A = (P : A → Type 0) → ((x : A) → Is (P x)) → Is ((x : A) × P x)

-- a value with a proof that it is within bounds is known by the value
abbrev Within : {A : Type 0} → (A → Type 0) → Type 0
Within {A = A} In = (x : A) × In x

same_within : {A : Type 0} (In : A → Type 0) → ((x : A) → IsProp (In x)) → (x y : Within In) → x.0 ≡ y.0 → x ≡ y
same_within In prop x y e = same_made In (λ x i. (x, i)) prop x.0 y.0 e x.1 y.1

up_to : (most : ℕ) → Searchable (Within (λ n. n ≤ most))
up_to most P is =
    in_words (some_below (suc most) (λ n. (i : n ≤ most) × P (n, i)) (λ n. elim (is_at_most n most) [
      | inl i ↦ in_words (is (n, i)) (λ p. (i, p))
          (λ h. subst P (same_within (λ n. n ≤ most) (λ n. hlevel props) (n, h.0) (n, i) refl) h.1)
      | inr more ↦ inr (λ h. more h.0)
    ])) (λ h. ((h.0, h.2.0), h.2.1)) (λ h. (h.0.0, omega (arith, h.0.1), (h.0.1, h.1)))

pairs : {A B : Type 0} → Searchable A → Searchable B → Searchable (A × B)
pairs {B = B} search_a search_b P is =
    in_words (search_a (λ a. (b : B) × P (a, b)) (λ a. search_b (λ b. P (a, b)) (λ b. is (a, b))))
    (λ h. ((h.0, h.1.0), h.1.1)) (λ h. (h.0.0, (h.0.1, h.1)))

-- each value is made of one that can be searched for
made_of : {A B : Type 0} → Searchable A → (make : A → B) → ((y : B) → (x : A) × (make x ≡ y)) → Searchable B
made_of search_a make parts P is =
    in_words (search_a (λ x. P (make x)) (λ x. is (make x))) (λ h. (make h.0, h.1))
    (λ h. let x = parts h.0 in (x.0, subst P (sym x.1) h.1))

-- a year by its place among all years
all_years : Searchable (Within IsYear)
all_years =
    made_of (up_to 199_998)
    (λ i. (pos i.0 -ℤ pos 99_999, (omega (arith, ints, i.1), omega (arith, ints, i.1))))
    (λ y. (
      (unsigned_abs (y.0 +ℤ pos 99_999), omega (arith, ints, y.1)),
      same_within IsYear (λ z. hlevel props) _ y (omega (arith, ints, y.1)),
    ))

ymds : Searchable Ymd
ymds =
    made_of (pairs all_years (pairs (up_to 99) (up_to 99)))
    (λ (y, (m, d)). record { year = y.0; month = m.0; day = d.0; year_in = y.1; month_in = m.1; day_in = d.1 })
    (λ d. (((d.year, d.year_in), ((d.month, d.month_in), (d.day, d.day_in))), refl))

longs : Searchable LongCount
longs =
    made_of (pairs (up_to 9_999) (pairs (up_to 9_999) (pairs (up_to 9_999) (pairs (up_to 9_999) (up_to 9_999)))))
    (λ (p, (q, (r, (s, t)))). record {
      baktun = p.0;
      katun = q.0;
      tun = r.0;
      uinal = s.0;
      kin = t.0;
      places = (p.1, q.1, r.1, s.1, t.1);
    })
    (λ n. let (p, q, r, s, t) = n.places in
    (((n.baktun, p), ((n.katun, q), ((n.tun, r), ((n.uinal, s), (n.kin, t))))), refl))

-- a name by its kind and its count
abbrev Name : Type 0
Name = Within (λ name. count_of name ≤ 99)

name_by : ℕ → Within (λ n. n ≤ 99) → Name
name_by zero n = (Kalends n.0, n.1)
name_by (suc zero) n = (Nones n.0, n.1)
name_by (suc (suc zero)) n = (Ides n.0, n.1)
name_by (suc (suc (suc k))) n = (SecondSixth, omega arith)

kind_of : (x : RomanName) (h : count_of x ≤ 99)
    → (k : Within (λ k. k ≤ 3) × Within (λ n. n ≤ 99)) × (name_by k.0.0 k.1 ≡ (x, h))
unfolding name_by
kind_of (Kalends n) h = (((0, omega arith), (n, h)), refl)
kind_of (Nones n) h = (((1, omega arith), (n, h)), refl)
kind_of (Ides n) h = (((2, omega arith), (n, h)), refl)
kind_of SecondSixth h =
    (((3, omega arith), (0, omega arith)), same_within (λ name. count_of name ≤ 99) (λ x. hlevel props) _ _ refl)

romans : Searchable RomanDate
romans =
    made_of (pairs all_years (pairs (up_to 99) (made_of (pairs (up_to 3) (up_to 99)) (λ k. name_by k.0.0 k.1)
    (λ x. kind_of x.0 x.1))))
    (λ (y, (m, x)). record { year = y.0; month = m.0; name = x.0; year_in = y.1; month_in = m.1; count_in = x.1 })
    (λ d. (((d.year, d.year_in), ((d.month, d.month_in), (d.name, d.count_in))), refl))

-- ---- whether some date of a calendar is as said
abbrev SomeDate : Calendar → (Date → Type 0) → Type 0
SomeDate calendar P = (date : Date) × (calendar_of_date date ≡ calendar) × P date

-- each date of the calendar is made of a value that can be searched for
some_made : {A : Type 0} → Searchable A → (calendar : Calendar) (make : A → Date)
    → ((x : A) → calendar_of_date (make x) ≡ calendar)
    → ((date : Date) → calendar_of_date date ≡ calendar → (x : A) × (make x ≡ date)) → (P : Date → Type 0)
    → ((date : Date) → Is (P date)) → Is (SomeDate calendar P)
some_made search calendar make of parts P is =
    in_words (search (λ x. P (make x)) (λ x. is (make x))) (λ h. (make h.0, of h.0, h.1))
    (λ h. let x = parts h.0 h.1 in (x.0, subst P (sym x.1) h.2))

is_civil : (calendar : Calendar) (civil : IsCivil calendar) (date : Date) → calendar_of_date date ≡ calendar
    → (d : Ymd) × (Civil (record { calendar = calendar; ymd = d; civil = civil }) ≡ date)
is_civil calendar civil (Civil d) of = (d.ymd, ap Civil (civil_same _ d (sym of) refl))
is_civil calendar civil (Long n) of = absurd (civil.0 (sym of))
is_civil calendar civil (Roman d) of = absurd (civil.1 (sym of))

is_long : (date : Date) → calendar_of_date date ≡ Longcount → (n : LongCount) × (Long n ≡ date)
is_long (Civil d) of = absurd (d.civil.0 of)
is_long (Long n) of = (n, refl)
is_long (Roman d) of = absurd (cc)

is_roman : (date : Date) → calendar_of_date date ≡ RomanCalendar → (d : RomanDate) × (Roman d ≡ date)
is_roman (Civil d) of = absurd (d.civil.1 of)
is_roman (Long n) of = absurd (cc)
is_roman (Roman d) of = (d, refl)

some_date : (calendar : Calendar) (P : Date → Type 0) → ((date : Date) → Is (P date)) → Is (SomeDate calendar P)
some_date Longcount = some_made longs Longcount Long (λ n. refl) is_long
some_date RomanCalendar = some_made romans RomanCalendar Roman (λ d. refl) is_roman
some_date calendar =
    some_made ymds calendar (λ d. Civil (record { calendar = calendar; ymd = d; civil = (λ e. cc, λ e. cc) }))
    (λ d. refl) (is_civil calendar (λ e. cc, λ e. cc))

-- ---- the date that a text says
said : (calendar : Calendar) (text : List ℕ) (x : Parts) → parts_at calendar text ≡ Some x
    → (date : Date) × SaysDate calendar text date
said Longcount text x e =
    let ((p, q, r, s, t), found, same) = bind_some (long_at text) _ x e in
    let is = long_says text (p, q, r, s, t) found in
    let places = places_in text (p, q, r, s, t) is in
    (Long (record { baktun = p; katun = q; tun = r; uinal = s; kin = t; places = places }), (refl, is))
said RomanCalendar text x e =
    let ((y, m, name), found, same) = bind_some (roman_at text) _ x e in
    let is = roman_says text (y, m, name) found in
    let (year, rest, is_year, (month, day, is_month, is_name, later), joined) = is in (
      Roman (record {
        year = y;
        month = m;
        name = name;
        year_in = year_in is_year;
        month_in = omega (arith, numeral_below is_month);
        count_in = count_in is_name;
      }),
      (refl, is),
    )
said calendar text x e =
    let ((y, m, d), found, same) = bind_some (civil_at (grammar calendar) text) _ x e in
    let is = civil_says (grammar calendar) text (y, m, d) found in
    let (year, rest, is_year, (month, day, is_month, is_day, later), joined) = is in
    let ymd : Ymd = record {
      year = y;
      month = m;
      day = d;
      year_in = year_in is_year;
      month_in = month_in is_month;
      day_in = omega (arith, numeral_below is_day);
    } in
    (Civil (record { calendar = calendar; ymd = ymd; civil = (λ e. cc, λ e. cc) }), (refl, is))

says_by : (calendar : Calendar) (text : List ℕ) (found : Option Parts) → parts_at calendar text ≡ found
    → Is ((date : Date) × SaysDate calendar text date)
says_by calendar text None e = inr (λ h. none_some ((none_says calendar text None refl e h.0).1 h.1))
says_by calendar text (Some x) e = inl (said calendar text x e)

pub says_date : (calendar : Calendar) (text : List ℕ) → Is ((date : Date) × IsDateText calendar text date)
says_date calendar text = says_by calendar (trimmed text) _ refl

-- ---- the calendar that a text names
named_by : (o : Option Calendar) (text : List ℕ) → ((e : Calendar) → (o ≡ Some e) ↔ IsNamed text (calendar_name e))
    → Is ((calendar : Calendar) × IsNamed text (calendar_name calendar))
named_by None text h = inr (λ is. none_some ((h is.0).1 is.1))
named_by (Some c) text h = inl (c, (h c).0 refl)

pub names_calendar : (text : List ℕ) → Is ((calendar : Calendar) × IsNamed text (calendar_name calendar))
names_calendar text =
    let found = target_by_name (str_to_ascii_lowercase (trimmed text)) in
    named_by (calendar_in found) text
    (calendar_is_named found _ text (λ t. named_by_search found (trimmed text) text t refl refl) refl)

-- ---- the cell of a day
pub has_cell : (t : Target) (n : ℤ) → (cell : List ℕ) × IsCell t n cell
has_cell (DateTarget calendar) n = elim (some_date calendar
    (λ date. IsDateOfCalendar date × (day_number_of_date date ≡ n))
    (λ date. both (is_date_of_calendar date) (is_integer (day_number_of_date date) n))) [
      | inl h ↦ (canonical_text h.0, on_date h.0 h.1 h.2.0 h.2.1 refl)
      | inr none ↦ ([], no_date (λ date of is day. none (date, of, (is, day))) refl)
    ]
has_cell Haab n = (_, refl)
has_cell Tzolkin n = (_, refl)
