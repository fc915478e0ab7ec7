-- What the ends of a month and a year that are said have between them.
use Rattle.std.proofs.Common.{◌≡◌, ◌↔◌, ℕ, List, refl, sym, ap, subst, ◌∙◌, arith, ℤ, pos, ◌≤ℤ◌, Option, Some, None}
use Rattle.std.specs.Prelude.{IsTrue, option_map}
use Rattle.day_numbers.specs.Rules.{Rules, IsDateOf, day_number_of, days_of_month, are_months}
use Rattle.day_numbers.specs.declared.rules.Month.{Month}
use Rattle.day_numbers.specs.declared.ymd.Ymd.{Ymd}
use Rattle.date_texts.specs.Calendars.{Reckoning, by_rules, by_weeks, by_places, by_names, IsDateBy, day_number_by, reckoning}
use Rattle.date_texts.specs.declared.calendar.Calendar.{Calendar}
use Rattle.written_dates.specs.declared.items.Number.{Number as Numeral}
use Rattle.written_dates.specs.declared.written.Choice.{Choice}
use Rattle.date_spans.specs.declared.ends.Numbers.{Numbers}
use Rattle.date_spans.specs.declared.extents.Extent.{Extent}
use Rattle.date_spans.specs.declared.extents.Extent.TheVariants as extent
use Rattle.date_spans.specs.Ends.{HasDay, first_in, last_in, last_year_in, year_of, numbers}
use Rattle.date_spans.specs.Laws.{HasEnds, SaidMonthIsExact, SaidYearIsExact, SaidYearsAreExact, SaidIsForwards}
use Rattle.date_spans.specs.Months.{months_by, months_in, months_of, first_month, last_month}
use Rattle.date_spans.specs.Extents.{year_in}
use Rattle.date_spans.proofs.LawLemmas.{month_exact, year_exact, years_exact, month_forwards, year_forwards}

date_at : (rules : Rules) (y z : ℤ) (m k d j : ℕ) → y ≡ z → m ≡ k → d ≡ j → IsDateOf rules y m d
    → IsDateOf rules z k j
date_at rules y z m k d j e f g h =
    subst (λ (x : ℤ). IsDateOf rules x k j) e (subst (λ (x : ℕ). IsDateOf rules y x j) f
    (subst (λ (x : ℕ). IsDateOf rules y m x) g h))

number_at : (rules : Rules) (y z : ℤ) (m k d j : ℕ) → y ≡ z → m ≡ k → d ≡ j
    → day_number_of rules z k j ≡ day_number_of rules y m d
number_at rules y z m k d j e f g =
    ap (λ (x : ℤ). day_number_of rules x k j) (sym e) ∙ ap (λ (x : ℕ). day_number_of rules y x j) (sym f)
    ∙ ap (λ (x : ℕ). day_number_of rules y m x) (sym g)

-- a date with these numbers, on day n
record IsAt (k : Reckoning) (a : Ymd) (year month day : ℕ) (n : ℤ) : Type 0 where
  year_is : a.year ≡ pos year
  month_is : a.month ≡ month
  day_is : a.day ≡ day
  has : IsDateBy k a
  number : day_number_by k a ≡ n

at_rules : (rules : Rules) (a : Ymd) (year month day : ℕ) (n : ℤ) → IsAt (by_rules rules) a year month day n
    → IsDateOf rules (pos year) month day × (day_number_of rules (pos year) month day ≡ n)
at_rules rules a year month day n h = (
  date_at rules a.year (pos year) a.month month a.day day h.year_is h.month_is h.day_is h.has,
  number_at rules a.year (pos year) a.month month a.day day h.year_is h.month_is h.day_is ∙ h.number,
)

-- no month and no week has a day 0
no_day_zero : (k : Reckoning) (a : Ymd) (year month : ℕ) (n : ℤ) → IsAt k a year month 0 n → ⊥
no_day_zero (by_rules rules) a year month n h = absurd (omega (arith, h.has.1, h.day_is))
no_day_zero by_weeks a year month n h = absurd (omega (arith, h.has.1, h.day_is))
no_day_zero by_places a year month n h = h.has
no_day_zero by_names a year month n h = h.has

between : (n m N K : ℤ) (x : ℤ) (G : Type 0) → N ≡ n → K ≡ m → ((N ≤ℤ x) × (x ≤ℤ K)) ↔ G
    → ((n ≤ℤ x) × (x ≤ℤ m)) ↔ G
between n m N K x G e f h =
    subst (λ (z : ℤ). ((z ≤ℤ x) × (x ≤ℤ m)) ↔ G) e (subst (λ (z : ℤ). ((N ≤ℤ x) × (x ≤ℤ z)) ↔ G) f h)

month_between : (k : Reckoning) (year month : ℕ) (a b : Ymd) (n m : ℤ) → IsAt k a year month 1 n
    → IsAt k b year month (days_of_month (months_by k year) month) m
    → (date : Ymd) → IsDateBy k date
    → ((n ≤ℤ day_number_by k date) × (day_number_by k date ≤ℤ m))
    ↔ ((date.year ≡ pos year) × (date.month ≡ month))
month_between (by_rules rules) year month a b n m h g date d =
    let first = at_rules rules a year month 1 n h in
    let last = at_rules rules b year month (days_of_month (months_in rules year) month) m g in
    between n m _ _ _ _ first.1 last.1 (month_exact rules year month first.0 date.year date.month date.day d)
month_between by_weeks year month a b n m h g date d = absurd (no_day_zero by_weeks b year month m g)
month_between by_places year month a b n m h g date d = absurd d
month_between by_names year month a b n m h g date d = absurd d

month_in_order : (k : Reckoning) (year month : ℕ) (a b : Ymd) (n m : ℤ) → IsAt k a year month 1 n
    → IsAt k b year month (days_of_month (months_by k year) month) m → n ≤ℤ m
month_in_order (by_rules rules) year month a b n m h g =
    let first = at_rules rules a year month 1 n h in
    let last = at_rules rules b year month (days_of_month (months_in rules year) month) m g in
    subst (λ (z : ℤ). z ≤ℤ m) first.1 (subst (λ (z : ℤ). day_number_of rules (pos year) month 1 ≤ℤ z) last.1
    (month_forwards rules year month first.0))
month_in_order by_weeks year month a b n m h g = absurd (no_day_zero by_weeks b year month m g)
month_in_order by_places year month a b n m h g = absurd h.has
month_in_order by_names year month a b n m h g = absurd h.has

abbrev year_first : Reckoning → ℕ → ℕ
year_first k year = first_month (months_by k year)

abbrev year_last : Reckoning → ℕ → ℕ
year_last k year = last_month (months_by k year)

year_between : (k : Reckoning) (year : ℕ) (a b : Ymd) (n m : ℤ) → IsTrue (are_months (months_by k year))
    → IsAt k a year (year_first k year) 1 n
    → IsAt k b year (year_last k year) (days_of_month (months_by k year) (year_last k year)) m
    → (date : Ymd) → IsDateBy k date
    → ((n ≤ℤ day_number_by k date) × (day_number_by k date ≤ℤ m)) ↔ (date.year ≡ pos year)
year_between (by_rules rules) year a b n m ordered h g date d =
    let first = at_rules rules a year (first_month (months_in rules year)) 1 n h in
    let last = at_rules rules b year (last_month (months_in rules year))
    (days_of_month (months_in rules year) (last_month (months_in rules year))) m g in
    between n m _ _ _ _ first.1 last.1 (year_exact rules year ordered first.0 last.0 date.year date.month date.day d)
year_between by_weeks year a b n m ordered h g date d = absurd (no_day_zero by_weeks b year 0 m g)
year_between by_places year a b n m ordered h g date d = absurd d
year_between by_names year a b n m ordered h g date d = absurd d

years_between : (k : Reckoning) (first last : ℕ) (a b : Ymd) (n m : ℤ) → IsTrue (are_months (months_by k last))
    → IsAt k a first (year_first k first) 1 n
    → IsAt k b last (year_last k last) (days_of_month (months_by k last) (year_last k last)) m
    → (date : Ymd) → IsDateBy k date
    → ((n ≤ℤ day_number_by k date) × (day_number_by k date ≤ℤ m))
    ↔ ((pos first ≤ℤ date.year) × (date.year ≤ℤ pos last))
years_between (by_rules rules) first last a b n m ordered h g date d =
    let begins = at_rules rules a first (first_month (months_in rules first)) 1 n h in
    let ends = at_rules rules b last (last_month (months_in rules last))
    (days_of_month (months_in rules last) (last_month (months_in rules last))) m g in
    between n m _ _ _ _ begins.1 ends.1
    (years_exact rules first last ordered begins.0 ends.0 date.year date.month date.day d)
years_between by_weeks first last a b n m ordered h g date d = absurd (no_day_zero by_weeks b last 0 m g)
years_between by_places first last a b n m ordered h g date d = absurd d
years_between by_names first last a b n m ordered h g date d = absurd d

year_in_order : (k : Reckoning) (year : ℕ) (a b : Ymd) (n m : ℤ) → IsTrue (are_months (months_by k year))
    → IsAt k a year (year_first k year) 1 n
    → IsAt k b year (year_last k year) (days_of_month (months_by k year) (year_last k year)) m → n ≤ℤ m
year_in_order (by_rules rules) year a b n m ordered h g =
    let first = at_rules rules a year (first_month (months_in rules year)) 1 n h in
    let last = at_rules rules b year (last_month (months_in rules year))
    (days_of_month (months_in rules year) (last_month (months_in rules year))) m g in
    subst (λ (z : ℤ). z ≤ℤ m) first.1
    (subst (λ (z : ℤ). day_number_of rules (pos year) (first_month (months_in rules year)) 1 ≤ℤ z)
    last.1 (year_forwards rules year ordered first.0 last.0))
year_in_order by_weeks year a b n m ordered h g = absurd (no_day_zero by_weeks b year 0 m g)
year_in_order by_places year a b n m ordered h g = absurd h.has
year_in_order by_names year a b n m ordered h g = absurd h.has

-- from what is said to dates
mapped : {A B : Type 0} (f : A → B) (o : Option A) (x : A) (y : B) → o ≡ Some x → option_map f o ≡ Some y → y ≡ f x
mapped f None x y e h = cc
mapped f (Some z) x y e h =
    let same : z ≡ x = cc in
    let is : f z ≡ y = cc in
    sym is ∙ ap f same

at_date : (calendar : Calendar) (date : Numbers) (year month day : ℕ) (n : ℤ) → date ≡ numbers year month day
    → HasDay calendar date n → (a : Ymd) × IsAt (reckoning calendar) a year month day n
at_date calendar date year month day n e h = (
  h.ymd,
  record {
    year_is = h.year_is ∙ ap (λ (x : Numbers). pos x.year) e;
    month_is = h.month_is ∙ ap (λ (x : Numbers). x.month) e;
    day_is = h.day_is ∙ ap (λ (x : Numbers). x.day) e;
    has = h.has;
    number = h.number;
  },
)

first_at : (choice : Choice) (calendar : Calendar) (said : Extent) (year : ℕ) (n k : ℤ)
    → year_of choice calendar (year_in said) ≡ Some year → HasEnds choice calendar said n k
    → (month day : ℕ) → first_in said year (months_of calendar year) ≡ numbers year month day
    → (a : Ymd) × IsAt (reckoning calendar) a year month day n
first_at choice calendar said year n k e h month day is =
    at_date calendar h.first year month day n
    (mapped (λ (y : ℕ). first_in said y (months_of calendar y)) _ year h.first e h.first_is ∙ is) h.begins

last_at : (choice : Choice) (calendar : Calendar) (said : Extent) (year : ℕ) (n k : ℤ)
    → year_of choice calendar (last_year_in said) ≡ Some year → HasEnds choice calendar said n k
    → (month day : ℕ) → last_in said year (months_of calendar year) ≡ numbers year month day
    → (a : Ymd) × IsAt (reckoning calendar) a year month day k
last_at choice calendar said year n k e h month day is =
    at_date calendar h.last year month day k
    (mapped (λ (y : ℕ). last_in said y (months_of calendar y)) _ year h.last e h.last_is ∙ is) h.ends

pub said_month : (choice : Choice) (calendar : Calendar) (said : Numeral) (month : ℕ)
    → SaidMonthIsExact choice calendar said month
said_month choice calendar said month year n k e h date d =
    let days : ℕ = days_of_month (months_of calendar year) month in
    let first = first_at choice calendar (extent.Month said month) year n k e h month 1 refl in
    let last = last_at choice calendar (extent.Month said month) year n k e h month
    (days_of_month (months_of calendar year) month) refl in
    month_between (reckoning calendar) year month first.0 last.0 n k first.1 last.1 date d

pub said_year : (choice : Choice) (calendar : Calendar) (said : Numeral)
    → ((year : ℕ) → year_of choice calendar said ≡ Some year → IsTrue (are_months (months_of calendar year)))
    → SaidYearIsExact choice calendar said
said_year choice calendar said ordered year n k e h date d =
    let first = first_at choice calendar (extent.Year said) year n k e h (first_month (months_of calendar year)) 1 refl in
    let last = last_at choice calendar (extent.Year said) year n k e h (last_month (months_of calendar year))
    (days_of_month (months_of calendar year) (last_month (months_of calendar year))) refl in
    year_between (reckoning calendar) year first.0 last.0 n k (ordered year e) first.1 last.1 date d

pub said_years : (choice : Choice) (calendar : Calendar) (from to : Numeral)
    → ((year : ℕ) → year_of choice calendar to ≡ Some year → IsTrue (are_months (months_of calendar year)))
    → SaidYearsAreExact choice calendar from to
said_years choice calendar from to ordered year other n k e f h date d =
    let first = first_at choice calendar (extent.Years from to) year n k e h (first_month (months_of calendar year)) 1 refl in
    let last = last_at choice calendar (extent.Years from to) other n k f h (last_month (months_of calendar other))
    (days_of_month (months_of calendar other) (last_month (months_of calendar other))) refl in
    years_between (reckoning calendar) year other first.0 last.0 n k (ordered other f) first.1 last.1 date d

-- a month and a year have a year where they have ends
has_some : {A B : Type 0} (f : A → B) (o : Option A) (y : B) → option_map f o ≡ Some y → (x : A) × (o ≡ Some x)
has_some f None y h = absurd (let no : ⊥ = cc in no)
has_some f (Some x) y h = (x, refl)

pub month_ends : (choice : Choice) (calendar : Calendar) (said : Numeral) (month : ℕ)
    → SaidIsForwards choice calendar (extent.Month said month)
month_ends choice calendar said month n k h =
    let some = has_some (λ (y : ℕ). first_in (extent.Month said month) y (months_of calendar y)) _ h.first h.first_is in
    let first = first_at choice calendar (extent.Month said month) some.0 n k some.1 h month 1 refl in
    let last = last_at choice calendar (extent.Month said month) some.0 n k some.1 h month
    (days_of_month (months_of calendar some.0) month) refl in
    month_in_order (reckoning calendar) some.0 month first.0 last.0 n k first.1 last.1

pub year_ends : (choice : Choice) (calendar : Calendar) (said : Numeral)
    → ((year : ℕ) → year_of choice calendar said ≡ Some year → IsTrue (are_months (months_of calendar year)))
    → SaidIsForwards choice calendar (extent.Year said)
year_ends choice calendar said ordered n k h =
    let some = has_some (λ (y : ℕ). first_in (extent.Year said) y (months_of calendar y)) _ h.first h.first_is in
    let first = first_at choice calendar (extent.Year said) some.0 n k some.1 h
    (first_month (months_of calendar some.0)) 1 refl in
    let last = last_at choice calendar (extent.Year said) some.0 n k some.1 h (last_month (months_of calendar some.0))
    (days_of_month (months_of calendar some.0) (last_month (months_of calendar some.0))) refl in
    year_in_order (reckoning calendar) some.0 first.0 last.0 n k (ordered some.0 some.1) first.1 last.1

-- the months of the year that is found are months
pub ordered_by : (choice : Choice) (calendar : Calendar) (said : Numeral) (year : ℕ) (months : List Month)
    → Some year ≡ year_of choice calendar said → months ≡ months_of calendar year → IsTrue (are_months months)
    → (y : ℕ) → year_of choice calendar said ≡ Some y → IsTrue (are_months (months_of calendar y))
ordered_by choice calendar said year months e f h y g =
    let both : Some year ≡ Some y = e ∙ g in
    let same : year ≡ y = cc in
    subst (λ (z : ℕ). IsTrue (are_months (months_of calendar z))) same
    (subst (λ (ms : List Month). IsTrue (are_months ms)) f h)
