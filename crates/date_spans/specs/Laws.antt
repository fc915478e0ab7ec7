-- What the first and the last date of a month and of a year have between them: all of its days, and no others.
use Rattle.std.specs.Prelude.{◌≡◌, ◌↔◌, ◌≤◌, ℕ, ℤ, pos, ◌≤ℤ◌, true, false, List, Option, Some}
use Rattle.day_numbers.specs.Rules.{Rules, IsDateOf, day_number_of, days_of_month}
use Rattle.day_numbers.specs.declared.ymd.Ymd.{Ymd}
use Rattle.date_texts.specs.Calendars.{IsDateBy, day_number_by, reckoning}
use Rattle.date_texts.specs.declared.calendar.Calendar.{Calendar}
use Rattle.written_dates.specs.declared.items.Number.{Number as Numeral}
use Rattle.written_dates.specs.declared.calendars.Form.TheVariants.{Civil}
use Rattle.written_dates.specs.declared.meanings.Name.{Name}
use Rattle.written_dates.specs.declared.written.Choice.{Choice}
use Rattle.written_dates.specs.Calendars.{form}
use Rattle.written_dates.specs.Signs.{has_minus, three_runs}
use Rattle.written_dates.specs.Tokens.{tokens}
use Rattle.written_dates.specs.Times.{timeless}
use Rattle.written_dates.specs.Written.{answer, begins_at_midnight, is_dated, is_found, unless_turned, written}
use Rattle.date_spans.specs.declared.ends.Numbers.{Numbers}
use Rattle.date_spans.specs.declared.extents.Extent.{Extent}
use Rattle.date_spans.specs.declared.extents.Extent.TheVariants as extent
use Rattle.date_spans.specs.declared.spans.Marks.{Marks}
use Rattle.date_spans.specs.Brackets.{without_brackets}
use Rattle.date_spans.specs.Cuts.{unmarked}
use Rattle.date_spans.specs.Spans.{IsSpan, inferred, is_dual, is_read}
use Rattle.date_spans.specs.Ends.{HasDay, first_of, last_of, year_of}
use Rattle.date_spans.specs.Months.{first_month, last_month, months_in}

-- of the days of a month that the calendar has, this is the greatest
abbrev pub LastDayIsGreatest : Rules → Type 0
LastDayIsGreatest rules =
    (year month : ℕ) → IsDateOf rules (pos year) month 1
    → IsDateOf rules (pos year) month (days_of_month (months_in rules year) month)
    × ((day : ℕ) → IsDateOf rules (pos year) month day → day ≤ days_of_month (months_in rules year) month)

-- a date lies from the first to the last of these days
abbrev pub LiesFrom : Rules → ℤ → ℤ → ℤ → ℕ → ℕ → Type 0
LiesFrom rules first last year month day =
    (first ≤ℤ day_number_of rules year month day) × (day_number_of rules year month day ≤ℤ last)

-- a date lies from the first day of a month to its last exactly where it has this year and this month
abbrev pub MonthIsExact : Rules → Type 0
MonthIsExact rules =
    (year month : ℕ) → IsDateOf rules (pos year) month 1
    → (y : ℤ) (m d : ℕ) → IsDateOf rules y m d
    → LiesFrom rules (day_number_of rules (pos year) month 1)
    (day_number_of rules (pos year) month (days_of_month (months_in rules year) month)) y m d
    ↔ ((y ≡ pos year) × (m ≡ month))

-- a date lies from the first day of a year's first month to the last day of its last month exactly where it has this
-- year
abbrev pub YearIsExact : Rules → ℕ → Type 0
YearIsExact rules year =
    let months = months_in rules year in
    IsDateOf rules (pos year) (first_month months) 1
    → IsDateOf rules (pos year) (last_month months) (days_of_month months (last_month months))
    → (y : ℤ) (m d : ℕ) → IsDateOf rules y m d
    → LiesFrom rules (day_number_of rules (pos year) (first_month months) 1)
    (day_number_of rules (pos year) (last_month months) (days_of_month months (last_month months))) y m d
    ↔ (y ≡ pos year)

-- and its first day is not behind its last
abbrev pub YearIsForwards : Rules → ℕ → Type 0
YearIsForwards rules year =
    let months = months_in rules year in
    IsDateOf rules (pos year) (first_month months) 1
    → IsDateOf rules (pos year) (last_month months) (days_of_month months (last_month months))
    → day_number_of rules (pos year) (first_month months) 1
    ≤ℤ day_number_of rules (pos year) (last_month months) (days_of_month months (last_month months))

abbrev pub MonthIsForwards : Rules → Type 0
MonthIsForwards rules =
    (year month : ℕ) → IsDateOf rules (pos year) month 1
    → day_number_of rules (pos year) month 1
    ≤ℤ day_number_of rules (pos year) month (days_of_month (months_in rules year) month)

-- the two ends of a month or a year that is said, as dates that the calendar has
pub record HasEnds (choice : Choice) (calendar : Calendar) (said : Extent) (n k : ℤ) : Type 0 where
  pub first : Numbers
  pub last : Numbers
  pub first_is : first_of choice calendar said ≡ Some first
  pub last_is : last_of choice calendar said ≡ Some last
  pub begins : HasDay calendar first n
  pub ends : HasDay calendar last k

-- a date lies from the one day to the other
abbrev pub LiesBetween : Calendar → ℤ → ℤ → Ymd → Type 0
LiesBetween calendar n k date =
    (n ≤ℤ day_number_by (reckoning calendar) date) × (day_number_by (reckoning calendar) date ≤ℤ k)

-- exactly the dates of this month lie from its first day to its last
abbrev pub SaidMonthIsExact : Choice → Calendar → Numeral → ℕ → Type 0
SaidMonthIsExact choice calendar said month =
    (year : ℕ) (n k : ℤ) → year_of choice calendar said ≡ Some year
    → HasEnds choice calendar (extent.Month said month) n k
    → (date : Ymd) → IsDateBy (reckoning calendar) date
    → LiesBetween calendar n k date ↔ ((date.year ≡ pos year) × (date.month ≡ month))

-- exactly the dates of this year lie from its first day to its last
abbrev pub SaidYearIsExact : Choice → Calendar → Numeral → Type 0
SaidYearIsExact choice calendar said =
    (year : ℕ) (n k : ℤ) → year_of choice calendar said ≡ Some year → HasEnds choice calendar (extent.Year said) n k
    → (date : Ymd) → IsDateBy (reckoning calendar) date → LiesBetween calendar n k date ↔ (date.year ≡ pos year)

-- exactly the dates of these years do so, as of a century or of ten years
abbrev pub SaidYearsAreExact : Choice → Calendar → Numeral → Numeral → Type 0
SaidYearsAreExact choice calendar from to =
    (first last : ℕ) (n k : ℤ) → year_of choice calendar from ≡ Some first → year_of choice calendar to ≡ Some last
    → HasEnds choice calendar (extent.Years from to) n k → (date : Ymd) → IsDateBy (reckoning calendar) date
    → LiesBetween calendar n k date ↔ ((pos first ≤ℤ date.year) × (date.year ≤ℤ pos last))

-- the first day is not behind the last
abbrev pub SaidIsForwards : Choice → Calendar → Extent → Type 0
SaidIsForwards choice calendar said = (n k : ℤ) → HasEnds choice calendar said n k → n ≤ℤ k

-- but for a sign at its end, a text is read as a date today, and it has no dual year
pub record IsReadToday (choice : Choice) (calendar : Calendar) (names : List Name) (text : List ℕ) : Type 0 where
  pub reads : is_found (answer choice calendar names (unmarked text).0) ≡ true
  pub single : is_dual choice calendar names (unmarked text).0 ≡ false

-- or stands as registers have it
pub record StandsToday (choice : Choice) (calendar : Calendar) (names : List Name) (text : List ℕ) : Type 0 where
  pub runs : List ℕ × List ℕ × List ℕ
  pub stands : unless_turned choice.order (three_runs (tokens 0 (unmarked text).0)) ≡ Some runs
  pub single : is_dual choice calendar names (unmarked text).0 ≡ false

-- the first and the last day are both what is written today
abbrev pub AreWrittenToday : Choice → Calendar → List Name → List ℕ → List ℕ → List ℕ → Type 0
AreWrittenToday choice calendar names text first last =
    (first ≡ written choice (Some calendar) names (unmarked text).0)
    × (last ≡ written choice (Some calendar) names (unmarked text).0)

abbrev pub DatesAreTheirOwnSpans : Type 0
DatesAreTheirOwnSpans =
    (choice : Choice) (calendar : Calendar) (names : List Name) (text first last : List ℕ) (found : Marks)
    → form calendar ≡ Civil → IsSpan choice (Some calendar) names text first last found
    → IsReadToday choice calendar names text → AreWrittenToday choice calendar names text first last

abbrev pub RegisterDatesAreTheirOwnSpans : Type 0
RegisterDatesAreTheirOwnSpans =
    (choice : Choice) (calendar : Calendar) (names : List Name) (text first last : List ℕ) (found : Marks)
    → form calendar ≡ Civil → IsSpan choice (Some calendar) names text first last found
    → StandsToday choice calendar names text → AreWrittenToday choice calendar names text first last

-- but for a sign at its end, a text is a date before a time of day, and none with it; days begin at midnight
pub record HasTime (choice : Choice) (calendar : Calendar) (names : List Name) (text before : List ℕ) : Type 0 where
  pub midnight : begins_at_midnight calendar ≡ true
  pub time : timeless (unmarked text).0 ≡ Some before
  pub plain : has_minus (tokens 0 (unmarked text).0) ≡ false
  pub undated : is_dated choice calendar names (unmarked text).0 ≡ false
  pub dated : is_dated choice calendar names before ≡ true
  pub single : is_dual choice calendar names before ≡ false

-- then both days are that of the date
abbrev pub TimesChangeNoSpan : Type 0
TimesChangeNoSpan =
    (choice : Choice) (calendar : Calendar) (names : List Name) (text before first last : List ℕ) (found : Marks)
    → form calendar ≡ Civil → IsSpan choice (Some calendar) names text first last found
    → HasTime choice calendar names text before
    → (first ≡ written choice (Some calendar) names before) × (last ≡ written choice (Some calendar) names before)

-- a text with brackets that is read has the span of what is left without them, which is plain, and but for its mark
abbrev pub BracketsKeepSpans : Type 0
BracketsKeepSpans =
    (choice : Choice) (calendar : Calendar) (names : List Name) (text bare first last : List ℕ) (found : Marks)
    → form calendar ≡ Civil → without_brackets text ≡ Some bare → IsSpan choice (Some calendar) names text first last found
    → is_read found.kind ≡ true
    → (plain : Marks) × IsSpan choice (Some calendar) names bare first last plain × (found ≡ inferred plain)

-- a text has one first day and one last, and says one thing of them
abbrev pub SpansAreOne : Type 0
SpansAreOne =
    (choice : Choice) (calendar : Option Calendar) (names : List Name) (text first last begin end : List ℕ)
    (found marked : Marks) → IsSpan choice calendar names text first last found
    → IsSpan choice calendar names text begin end marked → (first ≡ begin) × (last ≡ end) × (found ≡ marked)
