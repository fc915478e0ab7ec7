-- The weekday of a date by tests.
use Rattle.std.proofs.Common.{◌≡◌, ℕ, zero, suc, ◌+◌, ◌-◌, ◌<◌, ◌≤◌, Some, None, Bool, true, false, ◌&&◌, ◌==◌, refl, arith, ℤ, pos, ◌≤ℤ◌, neg_ℤ}
use Rattle.std.specs.Bool.{Decides}
use Rattle.std.specs.Prelude.{int_le}
use Rattle.std.proofs.lemmas.Bool.{and_parts, false_from_ne_true}
use Rattle.std.proofs.lemmas.Bool.Decides.{nat_tests, same_from_decides, Decides-eqb}
use Rattle.day_numbers.proofs.SignedArithmeticLemmas.{signed_arith}
use Rattle.day_numbers.specs.Days.{IsDayNumber, weekday_number}
use Rattle.day_numbers.specs.Rules.{Rules, Years, from_one, with_zero, without_zero, HasYear, IsDateOf, day_number_of}
use Rattle.day_numbers.specs.Rules.{days_of_month}
use Rattle.day_numbers.specs.declared.day.Weekday.{Weekday}
use Rattle.day_numbers.specs.declared.ymd.Ymd.{Ymd}
use Rattle.church_year.specs.Weekdays.{number_of}
use Rattle.date_texts.specs.declared.calendar.Calendar.{Calendar}
use Rattle.date_texts.specs.declared.calendar.Calendar.TheVariants as calendars
use Rattle.date_texts.specs.Calendars.{Reckoning, by_rules, reckoning, IsDateBy, day_number_by}
use Rattle.written_dates.specs.declared.calendars.Form.TheVariants as forms
use Rattle.written_dates.specs.Calendars.{form}
use Rattle.written_dates.specs.Weekdays.{is_on, is_on_by, is_day_on, has_date, first_on}

-- each calendar has the years from 1 on
has_years : (years : Years) (year : ℕ) → 1 ≤ year → HasYear years (pos year)
has_years years zero h = absurd (omega arith)
has_years from_one (suc n) h = tt
has_years with_zero (suc n) h = tt
has_years without_zero (suc n) h = tt

-- numbers that a date can be made of
pub record IsSmall (year month day : ℕ) : Type 0 where
  pub some : 1 ≤ year
  pub few : year ≤ 99_999
  pub small_month : month ≤ 99
  pub small_day : day ≤ 99

abbrev HasDay : Rules → ℕ → ℕ → ℕ → Weekday → Type 0
HasDay r year month day weekday =
    IsDateOf r (pos year) month day × IsDayNumber (day_number_of r (pos year) month day)
    × (weekday_number (day_number_of r (pos year) month day) ≡ number_of weekday)

not_after_decided : (a b : ℤ) → Decides (int_le a b) (a ≤ℤ b)
not_after_decided a b = (λ e. omega (arith, signed_arith), λ h. grind (arith, signed_arith))

three_parts : (a b c : Bool) → (a && b && c) ≡ true → (a ≡ true) × (b ≡ true) × (c ≡ true)
three_parts a b c e = grind arith

day_decided : (n : ℤ) (weekday : Weekday)
    → Decides (is_day_on n weekday) (IsDayNumber n × (weekday_number n ≡ number_of weekday))
day_decided n weekday =
    let low = not_after_decided (neg_ℤ (pos 3_652_424)) n in
    let high = not_after_decided n (pos 3_652_059) in
    let same = Decides-eqb (weekday_number n) (number_of weekday) in (
      λ e. let all =
          three_parts (int_le (neg_ℤ (pos 3_652_424)) n) (int_le n (pos 3_652_059))
          (weekday_number n == number_of weekday) e in
          ((low.0 all.0, high.0 all.1), same.0 all.2),
      λ h. rw (low.1 h.0.0, high.1 h.0.1, same.1 h.1) refl,
    )

dated : (r : Rules) (year month day : ℕ) → has_date r year month day ≡ true
    → IsSmall year month day × IsDateOf r (pos year) month day
dated r year month day e =
    let some : 1 ≤ year = grind (arith, nat_tests) in (
      record {
        some = some;
        few = grind (arith, nat_tests);
        small_month = grind (arith, nat_tests);
        small_day = grind (arith, nat_tests);
      },
      (has_years r.years year some, grind (arith, nat_tests), grind (arith, nat_tests)),
    )

has_small : (r : Rules) (year month day : ℕ) → IsSmall year month day → 1 ≤ day
    → day ≤ days_of_month (r.months (pos year)) month → has_date r year month day ≡ true
has_small r year month day small a b = grind (arith, nat_tests, small.some, small.few, small.small_month, small.small_day)

pub on_parts : (r : Rules) (year month day : ℕ) (weekday : Weekday)
    → is_on_by (by_rules r) year month day weekday ≡ true
    → IsSmall year month day × HasDay r year month day weekday
on_parts r year month day weekday e =
    let both =
    and_parts (has_date r year month day) (is_day_on (day_number_of r (pos year) month day) weekday) e in
    let date = dated r year month day both.0 in
    let at = (day_decided (day_number_of r (pos year) month day) weekday).0 both.1 in
    (date.0, (date.1, at.0, at.1))

pub on_from : (r : Rules) (year month day : ℕ) (weekday : Weekday) → IsSmall year month day
    → HasDay r year month day weekday → is_on_by (by_rules r) year month day weekday ≡ true
on_from r year month day weekday small h =
    rw (
      has_small r year month day small h.0.1 h.0.2,
      (day_decided (day_number_of r (pos year) month day) weekday).1 (h.1, h.2),
    ) refl

-- ---- the calendars with years, months and days go by rules
ruled : (calendar : Calendar) → form calendar ≡ forms.Civil → (r : Rules) × (reckoning calendar ≡ by_rules r)
ruled calendars.Gregorian h = (_, refl)
ruled calendars.Iso h = absurd (cc)
ruled calendars.Julian h = (_, refl)
ruled calendars.Coptic h = (_, refl)
ruled calendars.Ethiopic h = (_, refl)
ruled calendars.Egyptian h = (_, refl)
ruled calendars.Armenian h = (_, refl)
ruled calendars.Islamic h = (_, refl)
ruled calendars.Hebrew h = (_, refl)
ruled calendars.Longcount h = absurd (cc)
ruled calendars.French h = (_, refl)
ruled calendars.Roman h = absurd (cc)
ruled calendars.Republican h = (_, refl)

pub not_ruled : (calendar : Calendar) (year month day : ℕ) (weekday : Weekday) → (form calendar ≡ forms.Civil → ⊥)
    → is_on calendar year month day weekday ≡ false
unfolding is_on
not_ruled calendars.Iso year month day weekday h = refl
not_ruled calendars.Longcount year month day weekday h = refl
not_ruled calendars.Roman year month day weekday h = refl
not_ruled _ year month day weekday h = absurd (h refl)

-- what is tested of a date
abbrev pub HasDateOn : Reckoning → Ymd → Weekday → Type 0
HasDateOn reckoning date weekday =
    IsDateBy reckoning date × IsDayNumber (day_number_by reckoning date)
    × (weekday_number (day_number_by reckoning date) ≡ number_of weekday)

on_by : (r : Rules) (date : Ymd) (year month day : ℕ) (weekday : Weekday) (b : Bool) → IsSmall year month day
    → date.year ≡ pos year → date.month ≡ month → date.day ≡ day → Decides b (HasDateOn (by_rules r) date weekday)
    → b ≡ is_on_by (by_rules r) year month day weekday
on_by r date year month day weekday b small y m d h =
    let same : HasDateOn (by_rules r) date weekday ≡ HasDay r year month day weekday = rw (y, m, d) refl in
    same_from_decides b (is_on_by (by_rules r) year month day weekday) (rw same at h) (
      λ e. (on_parts r year month day weekday e).1,
      λ k. on_from r year month day weekday small k,
    )

on_ruled : (k : Reckoning) (date : Ymd) (year month day : ℕ) (weekday : Weekday) (b : Bool)
    → ((r : Rules) × (k ≡ by_rules r)) → IsSmall year month day → date.year ≡ pos year → date.month ≡ month
    → date.day ≡ day → Decides b (HasDateOn k date weekday) → b ≡ is_on_by k year month day weekday
on_ruled (by_rules r) date year month day weekday b own small y m d h = on_by r date year month day weekday b small y m d h
on_ruled _ date year month day weekday b own small y m d h = absurd (cc own.1)

pub on_date : (calendar : Calendar) (date : Ymd) (year month day : ℕ) (weekday : Weekday) (b : Bool)
    → form calendar ≡ forms.Civil → IsSmall year month day → date.year ≡ pos year → date.month ≡ month
    → date.day ≡ day → Decides b (HasDateOn (reckoning calendar) date weekday)
    → b ≡ is_on calendar year month day weekday
unfolding is_on
on_date calendar date year month day weekday b civil small y m d h =
    on_ruled (reckoning calendar) date year month day weekday b (ruled calendar civil) small y m d h

-- a year, a month or a day too large for a date
large_by : (k : Reckoning) (year month day : ℕ) (weekday : Weekday) → (IsSmall year month day → ⊥)
    → is_on_by k year month day weekday ≡ false
large_by (by_rules r) year month day weekday h =
    false_from_ne_true (is_on_by (by_rules r) year month day weekday)
    (λ e. h (on_parts r year month day weekday e).0)
large_by _ year month day weekday h = refl

pub large : (calendar : Calendar) (year month day : ℕ) (weekday : Weekday) → (IsSmall year month day → ⊥)
    → is_on calendar year month day weekday ≡ false
unfolding is_on
large calendar year month day weekday h = large_by (reckoning calendar) year month day weekday h

-- ---- the first of so many days
pub first_found : (calendar : Calendar) (year month : ℕ) (weekday : Weekday) (left day : ℕ) → 0 < left
    → is_on calendar year month day weekday ≡ true → first_on calendar year month weekday left day ≡ Some day
unfolding first_on
first_found calendar year month weekday zero day some on = absurd (omega arith)
first_found calendar year month weekday (suc left) day some on = rw on refl

pub first_later : (calendar : Calendar) (year month : ℕ) (weekday : Weekday) (left day : ℕ) → 0 < left
    → is_on calendar year month day weekday ≡ false
    → first_on calendar year month weekday left day ≡ first_on calendar year month weekday (left - 1) (day + 1)
unfolding first_on
first_later calendar year month weekday zero day some off = absurd (omega arith)
first_later calendar year month weekday (suc left) day some off =
    let less : suc left - 1 ≡ left = omega arith in rw (less, off) refl

pub first_none : (calendar : Calendar) (year month : ℕ) (weekday : Weekday) (left day : ℕ) → left ≡ 0
    → first_on calendar year month weekday left day ≡ None
unfolding first_on
first_none calendar year month weekday left day e = rw e refl
