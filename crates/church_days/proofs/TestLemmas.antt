-- What tests find, and what a date's month and day, its weekday and its days from Easter say of the feasts on it.
use Rattle.std.proofs.Common.{◌≡◌, ◌∙◌, ℕ, ◌+◌, ◌-◌, ◌≤◌, ◌<◌, Bool, true, false, ◌&&◌, ◌⊎◌, inl, inr, refl, sym, ap, ap₂, arith, cond, zero, suc, negsuc, ◌==◌, ◌*ℤ◌}
use Rattle.std.proofs.Common.{List, [], ◌∷◌, Option, Some, None, ℤ, pos, ◌+ℤ◌, ◌-ℤ◌, ◌≤ℤ◌}
use Rattle.std.proofs.lemmas.Bool.{and_parts, false_from_ne_true}
use Rattle.std.proofs.lemmas.Bool.Decides.{Decides-eqb, nat_tests}
use Rattle.std.specs.Option.{option_and_then}
use Rattle.std.specs.Prelude.{if◌then◌else◌, int_le, int_lt, nat_le, nat_lt, not, slice_get, unsigned_abs, neg_ℤ}
use Rattle.day_numbers.proofs.RulesLemmas.{date_unique, date_at_place}
use Rattle.day_numbers.proofs.SignedArithmeticLemmas.{signed_arith}
use Rattle.day_numbers.specs.Days.{IsDayNumber, all_weekdays, weekday_number}
use Rattle.day_numbers.specs.Rules.{are_months, day_number_of, days_before_month, days_of_month, has_number}
use Rattle.day_numbers.specs.Rules.{year_start, year_length}
use Rattle.day_numbers.specs.declared.day.Weekday.{Weekday}
use Rattle.day_numbers.specs.declared.day.Weekday.TheVariants as weekdays
use Rattle.day_numbers.specs.declared.rules.Month.{Month}
use Rattle.day_numbers.specs.declared.ymd.Ymd.{Ymd}
use Rattle.solar_calendars.specs.Gregorian.{is_gregorian_leap}
use Rattle.solar_calendars.specs.Julian.{is_julian_leap}
use Rattle.solar_calendars.specs.TwelveMonths.{twelve_months}
use Rattle.church_year.proofs.FeastDateLemmas.{in_years}
use Rattle.church_year.proofs.FeastLemmas.{has_year}
use Rattle.church_year.specs.declared.churches.Church.{Church}
use Rattle.church_year.specs.declared.churches.Church.TheVariants.{Julian, Gregorian}
use Rattle.church_year.specs.declared.feasts.Anchor.{Anchor}
use Rattle.church_year.specs.declared.feasts.Anchor.TheVariants.{Fixed, Easter}
use Rattle.church_year.specs.declared.feasts.Feast.{Feast}
use Rattle.church_year.specs.declared.feasts.Feast.TheVariants as feasts
use Rattle.church_year.specs.declared.feasts.Place.{Place}
use Rattle.church_year.specs.declared.feasts.Place.TheVariants as places
use Rattle.church_year.specs.declared.feasts.Season.{Season}
use Rattle.church_year.specs.Easter.{easter, rules_of}
use Rattle.church_year.specs.Feasts.{HasAnchor, HasFeast, IsDateInYear, IsFeastDate, closing, day_from, feast_day}
use Rattle.church_year.specs.Feasts.{opening, placed}
use Rattle.church_year.specs.FeastDates.{date_in, has_anchor, has_feast, is_in_year, month_and_day}
use Rattle.church_year.specs.FeastDates.{named_day}
use Rattle.church_year.specs.Weekdays.{first_after, last_before, number_of}
use Rattle.church_days.specs.Computed.{is_date, means}
use Rattle.church_days.specs.DayNames.{DayName}

-- ---- a feast that a year is found to have
four_parts : (a b c d : Bool) → (a && b && c && d) ≡ true → (a ≡ true) × (b ≡ true) × (c ≡ true) × (d ≡ true)
four_parts a b c d e = grind arith

has_its_anchor : (church : Church) (year : ℕ) (anchor : Anchor) → 1 ≤ year → has_anchor church year anchor ≡ true
    → HasAnchor church year anchor
has_its_anchor church year (Fixed month day) some e =
    (has_year church year some, grind (arith, nat_tests), grind (arith, nat_tests))
has_its_anchor church year Easter some e = grind (arith, nat_tests)

has_its_feast : (church : Church) (year : ℕ) (feast : Feast) → 1 ≤ year → has_feast church year feast ≡ true
    → HasFeast church year feast
has_its_feast church year (feasts.Day anchor days) some e = has_its_anchor church year anchor some e
has_its_feast church year (feasts.Sunday season number) some e =
    let all =
    four_parts (nat_le 1 number) (has_anchor church year (opening season).0) (has_anchor church year (closing season).0)
    (int_lt (feast_day church year (feasts.Sunday season number)) (day_from church year (closing season))) e in (
      grind (arith, nat_tests, all.0),
      has_its_anchor church year (opening season).0 some all.1,
      has_its_anchor church year (closing season).0 some all.2,
      omega (arith, signed_arith, all.3),
    )

-- ---- a date that is found in a year
months_fit : (leap : Bool) → are_months (twelve_months leap) ≡ true
months_fit true = refl
months_fit false = refl

church_months : (church : Church) (y : ℤ) → are_months ((rules_of church).months y) ≡ true
church_months Julian y = months_fit (is_julian_leap y)
church_months Gregorian y = months_fit (is_gregorian_leap y)

-- which way a test went
chosen : {X : Type 0} (b : Bool) (x y z : X) → cond b x y ≡ z → ((b ≡ true) × (x ≡ z)) ⊎ ((b ≡ false) × (y ≡ z))
chosen true x y z e = inl (refl, e)
chosen false x y z e = inr (refl, e)

inside : (p q : ℕ × ℕ) → Some p ≡ Some q → p ≡ q
inside p q e = cc

pair_in : (p : ℕ × ℕ) (m d : ℕ) → Some p ≡ Some (m, d) → (p.0 ≡ m) × (p.1 ≡ d)
pair_in p m d e =
    let pairs = inside p (m, d) e in (ap (λ (p : ℕ × ℕ). p.0) pairs, ap (λ (p : ℕ × ℕ). p.1) pairs)

-- the place of a month and day in its year
place_found : (ms : List Month) (place m d : ℕ) → are_months ms ≡ true → month_and_day ms place ≡ Some (m, d)
    → (has_number ms m ≡ true) × (1 ≤ d) × (d ≤ days_of_month ms m) × (days_before_month ms m + d ≡ place + 1)
place_found [] place m d fit e = absurd (cc)
place_found (x ∷ ms) place m d fit e =
    elim (chosen (nat_lt place x.days) (Some (x.number, place + 1)) (month_and_day ms (place - x.days)) (Some (
      m,
      d,
    )) e) [
      | inl (within, is) ↦
          let same = pair_in (x.number, place + 1) m d is in grind (arith, nat_tests, same.0, same.1, within, fit)
      | inr (behind, is) ↦
          let fits = four_parts (not (has_number ms x.number)) (nat_le x.number 99) (nat_le x.days 99) (are_months
          ms) fit in
          let found = place_found ms (place - x.days) m d fits.3 is in
          grind (arith, nat_tests, behind, fits.0, found.0, found.1, found.2, found.3)
    ]

size : (z : ℤ) → pos 0 ≤ℤ z → pos (unsigned_abs z) ≡ z
size (pos k) h = refl
size (negsuc k) h = absurd (omega (arith, signed_arith))

date_is_found : (church : Church) (year : ℕ) (n : ℤ) (date : Ymd) → 1 ≤ year → date.year ≡ pos year
    → date_in church year n ≡ Some (date.month, date.day) → IsDateInYear church year n date
date_is_found church year n date some own e =
    let r = rules_of church in
    let first = year_start r (pos year) in
    let next = first +ℤ pos (year_length r (pos year)) in
    elim (chosen (is_in_year church year n) (month_and_day (r.months (pos year)) (unsigned_abs (n -ℤ first))) None
    (Some (date.month, date.day)) e) [
      | inl (within, is) ↦
          let all =
          four_parts (int_le first n) (int_lt n next) (int_le (neg_ℤ (pos 3_652_424)) n) (int_le n (pos 3_652_059))
          within in
          let low : first ≤ℤ n = omega (arith, signed_arith, all.0) in
          let range : IsDayNumber n = (omega (arith, signed_arith, all.2), omega (arith, signed_arith, all.3)) in
          let place = place_found (r.months (pos year)) (unsigned_abs (n -ℤ first)) date.month date.day
          (church_months church (pos year)) is in
          let far = size (n -ℤ first) (omega (arith, signed_arith, low)) in
          let dated = date_at_place r (pos year) n first date.month date.day (unsigned_abs (n -ℤ first))
          (r.months (pos year)) refl (has_year church year some) place.1 place.2 place.3 refl
          (omega (arith, signed_arith, far)) in
          record { is_date = rw own dated.0; of_day = rw own dated.1; of_year = own; in_range = range }
      | inr (outside, none) ↦ absurd (cc)
    ]

date_is : (found : Option (ℕ × ℕ)) (date : ℕ × ℕ) → is_date found date ≡ true → found ≡ Some date
date_is None date e = absurd (cc)
date_is (Some found) date e =
    let both = and_parts (found.0 == date.0) (found.1 == date.1) e in
    ap₂ (λ (a b : ℕ). Some (a, b)) ((Decides-eqb found.0 date.0).0 both.0) ((Decides-eqb found.1 date.1).0 both.1)

feast_is_found : (has : Bool) (day : ℤ) (find : ℤ → Option (ℕ × ℕ)) (date : ℕ × ℕ)
    → is_date (option_and_then find (if has then Some day else None)) date ≡ true
    → (has ≡ true) × (find day ≡ Some date)
feast_is_found true day find date e = (refl, date_is (find day) date e)
feast_is_found false day find date e = absurd (cc)

-- what the tests find to mean a date of the year falls on it
meant_falls : (church : Church) (year : ℕ) (name : DayName) (date : Ymd) → 1 ≤ year → year ≤ 9_999
    → date.year ≡ pos year → means church year (date.month, date.day) name ≡ true
    → IsFeastDate church year name.feast name.place date
meant_falls church year name date some few own e =
    let day = placed name.place (feast_day church year name.feast) in
    let within = in_years church year name.feast name.place (named_day church year name.feast name.place) some few
    refl in
    let found = feast_is_found (has_feast church year name.feast) day (date_in church year) (date.month, date.day)
    (ap (λ (o : Option (ℕ × ℕ)). is_date o (date.month, date.day)) (sym within) ∙ e) in
    record {
      some_year = some;
      early = few;
      has_feast = has_its_feast church year name.feast some found.0;
      is_dated = date_is_found church year day date some own found.1;
    }

pub never_meant : (church : Church) (year : ℕ) (name : DayName) (date : Ymd) → 1 ≤ year → year ≤ 9_999
    → date.year ≡ pos year → ¬ IsFeastDate church year name.feast name.place date
    → means church year (date.month, date.day) name ≡ false
never_meant church year name date some few own never =
    false_from_ne_true (means church year (date.month, date.day) name)
    (λ e. never (meant_falls church year name date some few own e))

-- ---- what is known of a feast on a date
pub fixed_on : (church : Church) (year month day : ℕ) (date : Ymd)
    → IsFeastDate church year (feasts.Day (Fixed month day) (pos 0)) (places.Days (pos 0)) date
    → (date.month ≡ month) × (date.day ≡ day)
fixed_on church year month day date is =
    let same : day_number_of (rules_of church) date.year date.month date.day
    ≡ day_number_of (rules_of church) (pos year) month day
    = omega (arith, signed_arith, is.is_dated.of_day) in
    let parts = date_unique (rules_of church) date.year (pos year) date.month month date.day day is.is_dated.is_date
    is.has_feast same in
    (parts.1, parts.2)

-- the same of a feast by its parts
pub fixed_by : (church : Church) (year month day : ℕ) (days : ℤ) (anchor : Anchor) (date : Ymd)
    → anchor ≡ Fixed month day → days ≡ pos 0
    → IsFeastDate church year (feasts.Day anchor days) (places.Days (pos 0)) date
    → (date.month ≡ month) × (date.day ≡ day)
fixed_by church year month day days anchor date e f is = fixed_on church year month day date (rw (e, f) at is)

pub easter_on : (church : Church) (year : ℕ) (days : ℤ) (date : Ymd)
    → IsFeastDate church year (feasts.Day Easter days) (places.Days (pos 0)) date
    → day_number_of (rules_of church) date.year date.month date.day ≡ easter church year +ℤ days
easter_on church year days date is = omega (arith, signed_arith, is.is_dated.of_day)

sunday_is : (n x : ℤ) (number : ℕ) → n ≡ first_after 0 x +ℤ pos 7 *ℤ (pos number -ℤ pos 1) +ℤ pos 0
    → weekday_number n ≡ 0
sunday_is n x number e = omega (arith, signed_arith, e)

pub sunday_on : (church : Church) (year : ℕ) (season : Season) (number : ℕ) (date : Ymd)
    → IsFeastDate church year (feasts.Sunday season number) (places.Days (pos 0)) date
    → weekday_number (day_number_of (rules_of church) date.year date.month date.day) ≡ 0
sunday_on church year season number date is =
    sunday_is (day_number_of (rules_of church) date.year date.month date.day)
    (day_from church year (opening season)) number is.is_dated.of_day

few_weekdays : (weekday : Weekday) → number_of weekday < 7
few_weekdays weekdays.Sunday = omega arith
few_weekdays weekday = omega arith

after_is : (weekday : ℕ) (n x : ℤ) → weekday < 7 → n ≡ first_after weekday x → weekday_number n ≡ weekday
after_is weekday n x few e = omega (arith, signed_arith, few, e)

before_is : (weekday : ℕ) (n x : ℤ) → weekday < 7 → n ≡ last_before weekday x → weekday_number n ≡ weekday
before_is weekday n x few e = omega (arith, signed_arith, few, e)

pub after_on : (church : Church) (year : ℕ) (feast : Feast) (weekday : Weekday) (date : Ymd)
    → IsFeastDate church year feast (places.After weekday) date
    → weekday_number (day_number_of (rules_of church) date.year date.month date.day) ≡ number_of weekday
after_on church year feast weekday date is =
    after_is (number_of weekday) (day_number_of (rules_of church) date.year date.month date.day)
    (feast_day church year feast) (few_weekdays weekday) is.is_dated.of_day

pub before_on : (church : Church) (year : ℕ) (feast : Feast) (weekday : Weekday) (date : Ymd)
    → IsFeastDate church year feast (places.Before weekday) date
    → weekday_number (day_number_of (rules_of church) date.year date.month date.day) ≡ number_of weekday
before_on church year feast weekday date is =
    before_is (number_of weekday) (day_number_of (rules_of church) date.year date.month date.day)
    (feast_day church year feast) (few_weekdays weekday) is.is_dated.of_day

-- the number of a weekday
pub weekday_numbered : (k : ℕ) (weekday : Weekday) → slice_get all_weekdays k ≡ Some weekday → k ≡ number_of weekday
weekday_numbered zero weekday e = let same : weekdays.Sunday ≡ weekday = cc in ap number_of same
weekday_numbered (suc zero) weekday e = let same : weekdays.Monday ≡ weekday = cc in ap number_of same
weekday_numbered (suc (suc zero)) weekday e = let same : weekdays.Tuesday ≡ weekday = cc in ap number_of same
weekday_numbered (suc (suc (suc zero))) weekday e = let same : weekdays.Wednesday ≡ weekday = cc in ap number_of same
weekday_numbered (suc (suc (suc (suc zero)))) weekday e = let same : weekdays.Thursday ≡ weekday = cc in ap
    number_of same
weekday_numbered (suc (suc (suc (suc (suc zero))))) weekday e = let same : weekdays.Friday ≡ weekday = cc in ap
    number_of same
weekday_numbered (suc (suc (suc (suc (suc (suc zero)))))) weekday e = let same : weekdays.Saturday ≡ weekday = cc
    in ap number_of same
weekday_numbered (suc (suc (suc (suc (suc (suc (suc k))))))) weekday e = absurd (cc)

-- weekdays of one number are one
pub one_weekday : (weekday other : Weekday) → number_of weekday ≡ number_of other → weekday ≡ other
one_weekday weekdays.Sunday weekdays.Sunday e = refl
one_weekday weekdays.Monday weekdays.Monday e = refl
one_weekday weekdays.Tuesday weekdays.Tuesday e = refl
one_weekday weekdays.Wednesday weekdays.Wednesday e = refl
one_weekday weekdays.Thursday weekdays.Thursday e = refl
one_weekday weekdays.Friday weekdays.Friday e = refl
one_weekday weekdays.Saturday weekdays.Saturday e = refl
one_weekday weekday other e = absurd (cc)

-- a day that is the first after a feast, or the last before it
pub on_weekday : (church : Church) (year : ℕ) (feast : Feast) (place : Place) (weekday : Weekday) (date : Ymd)
    → (place ≡ places.After weekday) ⊎ (place ≡ places.Before weekday) → IsFeastDate church year feast place date
    → weekday_number (day_number_of (rules_of church) date.year date.month date.day) ≡ number_of weekday
on_weekday church year feast place weekday date (inl e) is = after_on church year feast weekday date (rw e at is)
on_weekday church year feast place weekday date (inr e) is = before_on church year feast weekday date (rw e at is)
