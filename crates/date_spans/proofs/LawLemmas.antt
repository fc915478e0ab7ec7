-- What the first and the last date of a month and of a year have between them.
use Rattle.std.proofs.Common.{◌≡◌, ℕ, ◌+◌, ◌≤◌, refl, sym, ap, subst, arith}
use Rattle.std.proofs.Common.{ℤ, pos, negsuc, ◌+ℤ◌, ◌-ℤ◌, ◌≤ℤ◌}
use Rattle.std.proofs.lemmas.Int.{by_lt_z}
use Rattle.std.specs.Prelude.{◌↔◌, IsTrue}
use Rattle.day_numbers.specs.Rules.{Rules, IsDateOf, day_number_of, days_of_month, days_before_month, are_months}
use Rattle.day_numbers.specs.Rules.{year_start, year_length, HasYear}
use Rattle.date_texts.specs.Calendars.{by_rules, reckoning}
use Rattle.date_texts.specs.declared.calendar.Calendar.{Calendar}
use Rattle.day_numbers.proofs.RulesLemmas.{begins_after, date_unique, date_in_year, year_unique}
use Rattle.day_numbers.proofs.SignedArithmeticLemmas.{signed_arith}
use Rattle.date_spans.specs.Laws.{LastDayIsGreatest, LiesFrom, MonthIsExact, YearIsExact, YearIsForwards, MonthIsForwards}
use Rattle.date_spans.specs.Months.{months_by, months_in, months_of, first_month, last_month}
use Rattle.date_spans.proofs.MonthLemmas.{months_are, first_before, last_ends}

pub last_greatest : (rules : Rules) → LastDayIsGreatest rules
last_greatest rules year month h =
    let same = months_are rules year h.0 in
    rw same ((h.0, h.2, omega arith), λ day g. g.2)

-- a day from another on lies so many days behind it
natural : (z : ℤ) → pos 0 ≤ℤ z → (k : ℕ) × (z ≡ pos k)
natural (pos k) h = (k, refl)
natural (negsuc k) h = absurd (omega (arith, signed_arith))

behind : (first n : ℤ) → first ≤ℤ n → (k : ℕ) × (n ≡ first +ℤ pos k)
behind first n h =
    let some = natural (n -ℤ first) (omega (arith, signed_arith)) in
    let k : ℕ = some.0 in
    let e : n -ℤ first ≡ pos k = some.1 in
    (k, omega (arith, signed_arith, e))

month_from : (rules : Rules) (year month : ℕ) (y : ℤ) (m d : ℕ)
    → IsDateOf rules (pos year) month 1 → IsDateOf rules y m d
    → LiesFrom rules (day_number_of rules (pos year) month 1)
    (day_number_of rules (pos year) month (days_of_month (rules.months (pos year)) month)) y m d
    → (y ≡ pos year) × (m ≡ month)
month_from rules year month y m d h g lies =
    let start = day_number_of rules (pos year) month 1 in
    let place = behind (day_number_of rules (pos year) month 1) (day_number_of rules y m d) lies.0 in
    let k : ℕ = place.0 in
    let is : day_number_of rules y m d ≡ day_number_of rules (pos year) month 1 +ℤ pos k = place.1 in
    let few : k + 1 ≤ days_of_month (rules.months (pos year)) month = omega (arith, signed_arith, is, lies.1) in
    let there : IsDateOf rules (pos year) month (k + 1) = (h.0, omega arith, few) in
    let same : day_number_of rules y m d ≡ day_number_of rules (pos year) month (k + 1) = omega (arith, signed_arith, is) in
    let parts = date_unique rules y (pos year) m month d (k + 1) g there same in
    (parts.0, parts.1)

month_to : (rules : Rules) (year month : ℕ) (d : ℕ) → IsDateOf rules (pos year) month d
    → LiesFrom rules (day_number_of rules (pos year) month 1)
    (day_number_of rules (pos year) month (days_of_month (rules.months (pos year)) month)) (pos year) month d
month_to rules year month d g = (omega (arith, signed_arith, g.1), omega (arith, signed_arith, g.2))

pub month_exact : (rules : Rules) → MonthIsExact rules
month_exact rules year month h y m d g =
    let same = months_are rules year h.0 in
    rw same (
      month_from rules year month y m d h g,
      λ e.
          subst (λ (z : ℤ). LiesFrom rules (day_number_of rules (pos year) month 1)
          (day_number_of rules (pos year) month (days_of_month (rules.months (pos year)) month)) z m d) (sym e.0)
          (subst (λ (k : ℕ). LiesFrom rules (day_number_of rules (pos year) month 1)
          (day_number_of rules (pos year) month (days_of_month (rules.months (pos year)) month)) (pos year) k d) (sym e.1)
          (month_to rules year month d
          (subst (λ (z : ℤ). IsDateOf rules z month d) e.0 (subst (λ (k : ℕ). IsDateOf rules y k d) e.1 g)))),
    )

pub month_forwards : (rules : Rules) → MonthIsForwards rules
month_forwards rules year month h =
    let same = months_are rules year h.0 in rw same (omega (arith, signed_arith, h.2))

-- the first and the last day of a year, as its start and length say
year_first : (rules : Rules) (y : ℤ) → day_number_of rules y (first_month (rules.months y)) 1 ≡ year_start rules y
year_first rules y =
    let none : days_before_month (rules.months y) (first_month (rules.months y)) ≡ 0 = first_before (rules.months y) in
    omega (arith, signed_arith, none)

year_last : (rules : Rules) (y : ℤ) → IsTrue (are_months (rules.months y))
    → (day_number_of rules y (last_month (rules.months y)) (days_of_month (rules.months y) (last_month (rules.months y))))
    +ℤ pos 1 ≡ year_start rules y +ℤ pos (year_length rules y)
year_last rules y h = omega (arith, signed_arith, last_ends (rules.months y) h)

year_from : (rules : Rules) (year y : ℤ) (m d : ℕ) (first last : ℤ) → first ≡ year_start rules year
    → (last +ℤ pos 1) ≡ year_start rules year +ℤ pos (year_length rules year)
    → HasYear rules.years year → IsDateOf rules y m d
    → (first ≤ℤ day_number_of rules y m d) × (day_number_of rules y m d ≤ℤ last) → y ≡ year
year_from rules year y m d first last e f has g lies =
    let within = date_in_year rules y m d g in
    year_unique rules.years rules.epoch (year_length rules) y year (day_number_of rules y m d) g.0 has within.0 within.1
    (omega (arith, signed_arith, e, lies.0)) (omega (arith, signed_arith, f, lies.1))

year_to : (rules : Rules) (year : ℤ) (m d : ℕ) (first last : ℤ) → first ≡ year_start rules year
    → (last +ℤ pos 1) ≡ year_start rules year +ℤ pos (year_length rules year) → IsDateOf rules year m d
    → (first ≤ℤ day_number_of rules year m d) × (day_number_of rules year m d ≤ℤ last)
year_to rules year m d first last e f g =
    let within = date_in_year rules year m d g in
    (omega (arith, signed_arith, e, within.0), omega (arith, signed_arith, f, within.1))

pub year_exact : (rules : Rules) (year : ℕ) → IsTrue (are_months (months_in rules year)) → YearIsExact rules year
year_exact rules year ordered h l y m d g =
    let same = months_are rules year h.0 in
    let ordered' : IsTrue (are_months (rules.months (pos year))) = rw same at ordered in
    let first = year_first rules (pos year) in
    let last = year_last rules (pos year) ordered' in
    rw same (
      year_from rules (pos year) y m d _ _ first last h.0 g,
      λ e.
          let g' : IsDateOf rules (pos year) m d = subst (λ (z : ℤ). IsDateOf rules z m d) e g in
          subst (λ (z : ℤ). LiesFrom rules (day_number_of rules (pos year) (first_month (rules.months (pos year))) 1)
          (day_number_of rules (pos year) (last_month (rules.months (pos year)))
          (days_of_month (rules.months (pos year)) (last_month (rules.months (pos year))))) z m d) (sym e)
          (year_to rules (pos year) m d _ _ first last g'),
    )

years_from : (rules : Rules) (a z y : ℤ) (m d : ℕ) (first last : ℤ) → first ≡ year_start rules a
    → (last +ℤ pos 1) ≡ year_start rules z +ℤ pos (year_length rules z)
    → HasYear rules.years a → HasYear rules.years z → IsDateOf rules y m d
    → (first ≤ℤ day_number_of rules y m d) × (day_number_of rules y m d ≤ℤ last) → (a ≤ℤ y) × (y ≤ℤ z)
years_from rules a z y m d first last e f ha hz g lies =
    let within = date_in_year rules y m d g in (
      by_lt_z y a (λ lt. absurd (omega (
        arith,
        signed_arith,
        e,
        lies.0,
        within.1,
        begins_after rules.years rules.epoch (year_length rules) y a g.0 ha lt,
      ))) (λ ge. ge),
      by_lt_z z y (λ lt. absurd (omega (
        arith,
        signed_arith,
        f,
        lies.1,
        within.0,
        begins_after rules.years rules.epoch (year_length rules) z y hz g.0 lt,
      ))) (λ le. le),
    )

starts_before : (rules : Rules) (a y : ℤ) → HasYear rules.years a → HasYear rules.years y → a ≤ℤ y
    → year_start rules a ≤ℤ year_start rules y
starts_before rules a y ha hy le =
    by_lt_z a y
    (λ lt. omega (arith, signed_arith, begins_after rules.years rules.epoch (year_length rules) a y ha hy lt))
    (λ ge. let same : a ≡ y = omega (arith, signed_arith, le, ge) in
    omega (arith, signed_arith, ap (year_start rules) same))

ends_before : (rules : Rules) (y z : ℤ) → HasYear rules.years y → HasYear rules.years z → y ≤ℤ z
    → (year_start rules y +ℤ pos (year_length rules y)) ≤ℤ (year_start rules z +ℤ pos (year_length rules z))
ends_before rules y z hy hz le =
    by_lt_z y z
    (λ lt. omega (arith, signed_arith, begins_after rules.years rules.epoch (year_length rules) y z hy hz lt))
    (λ ge. let same : y ≡ z = omega (arith, signed_arith, le, ge) in
    omega (arith, signed_arith, ap (λ (x : ℤ). year_start rules x +ℤ pos (year_length rules x)) same))

years_to : (rules : Rules) (a z y : ℤ) (m d : ℕ) (first last : ℤ) → first ≡ year_start rules a
    → (last +ℤ pos 1) ≡ year_start rules z +ℤ pos (year_length rules z)
    → HasYear rules.years a → HasYear rules.years z → IsDateOf rules y m d → (a ≤ℤ y) × (y ≤ℤ z)
    → (first ≤ℤ day_number_of rules y m d) × (day_number_of rules y m d ≤ℤ last)
years_to rules a z y m d first last e f ha hz g among =
    let within = date_in_year rules y m d g in (
      omega (arith, signed_arith, e, within.0, starts_before rules a y ha g.0 among.0),
      omega (arith, signed_arith, f, within.1, ends_before rules y z g.0 hz among.1),
    )

-- a date lies from the first day of a year to the last of the same one or another exactly where its year is one of those
-- between
abbrev pub YearsAreExact : Rules → ℕ → ℕ → Type 0
YearsAreExact rules first last =
    let of_first = months_in rules first in let of_last = months_in rules last in
    IsDateOf rules (pos first) (first_month of_first) 1
    → IsDateOf rules (pos last) (last_month of_last) (days_of_month of_last (last_month of_last))
    → (y : ℤ) (m d : ℕ) → IsDateOf rules y m d
    → LiesFrom rules (day_number_of rules (pos first) (first_month of_first) 1)
    (day_number_of rules (pos last) (last_month of_last) (days_of_month of_last (last_month of_last))) y m d
    ↔ ((pos first ≤ℤ y) × (y ≤ℤ pos last))

pub years_exact : (rules : Rules) (first last : ℕ) → IsTrue (are_months (months_in rules last))
    → YearsAreExact rules first last
years_exact rules a z ordered h l y m d g =
    let of_first = months_are rules a h.0 in
    let of_last = months_are rules z l.0 in
    let ordered' : IsTrue (are_months (rules.months (pos z))) = rw of_last at ordered in
    let first = year_first rules (pos a) in
    let last = year_last rules (pos z) ordered' in
    rw (of_first, of_last) (
      years_from rules (pos a) (pos z) y m d _ _ first last h.0 l.0 g,
      years_to rules (pos a) (pos z) y m d _ _ first last h.0 l.0 g,
    )

pub year_forwards : (rules : Rules) (year : ℕ) → IsTrue (are_months (months_in rules year)) → YearIsForwards rules year
year_forwards rules year ordered h l =
    let same = months_are rules year h.0 in
    let ordered' : IsTrue (are_months (rules.months (pos year))) = rw same at ordered in
    let first = year_first rules (pos year) in
    let last = year_last rules (pos year) ordered' in
    let l' : IsDateOf rules (pos year) (last_month (rules.months (pos year)))
    (days_of_month (rules.months (pos year)) (last_month (rules.months (pos year)))) = rw same at l in
    let within = date_in_year rules (pos year) _ _ l' in
    rw same (omega (arith, signed_arith, first, within.0))

-- the months of a calendar are those of its rules
pub by_reckoning : (calendar : Calendar) (rules : Rules) (year : ℕ) → reckoning calendar ≡ by_rules rules
    → months_of calendar year ≡ months_in rules year
by_reckoning calendar rules year e = ap (λ r. months_by r year) e
