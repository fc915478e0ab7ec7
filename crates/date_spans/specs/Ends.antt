-- The first and the last day of what is said, as texts of registers.
use Rattle.std.specs.Prelude.{◌≡◌, ◌+◌, ℕ, ℤ, pos, negsuc, ◌+ℤ◌, ◌≤ℤ◌, ◌<ℤ◌, Bool, true, false, not, ◌&&◌}
use Rattle.std.specs.Prelude.{nat_le, if◌then◌else◌, List, []}
use Rattle.std.specs.Prelude.{Option, Some, None, option_map}
use Rattle.day_numbers.specs.Rules.{days_of_month}
use Rattle.day_numbers.specs.Days.{IsDayNumber}
use Rattle.day_numbers.specs.declared.rules.Month.{Month}
use Rattle.day_numbers.specs.declared.ymd.Ymd.{Ymd}
use Rattle.date_texts.specs.Calendars.{IsDateBy, day_number_by, reckoning}
use Rattle.date_texts.specs.Cells.{IsDateCell}
use Rattle.date_texts.specs.declared.calendar.Calendar.{Calendar}
use Rattle.written_dates.specs.declared.items.Item.{Item}
use Rattle.written_dates.specs.Written.{agrees, dated, short_rule}
use Rattle.written_dates.specs.declared.items.Number.{Number as Numeral}
use Rattle.written_dates.specs.declared.written.Choice.{Choice}
use Rattle.written_dates.specs.declared.written.Short.{Short}
use Rattle.written_dates.specs.declared.written.Short.TheVariants.{Refuse, Keep, Add}
use Rattle.date_spans.specs.declared.ends.Numbers.{Numbers}
use Rattle.date_spans.specs.declared.ends.Side.{Side}
use Rattle.date_spans.specs.declared.ends.Side.TheVariants as sides
use Rattle.date_spans.specs.declared.extents.Extent.{Extent}
use Rattle.date_spans.specs.declared.extents.Extent.TheVariants as extent
use Rattle.date_spans.specs.declared.extents.SaidDay.{SaidDay}
use Rattle.date_spans.specs.declared.sayings.Said.{Said}
use Rattle.date_spans.specs.declared.sayings.Said.TheVariants as said
use Rattle.date_spans.specs.Extents.{year_in}
use Rattle.date_spans.specs.Months.{first_month, has_two_adars, last_adar, last_month, months_of}

-- a year, a month and a day
abbrev pub numbers : ℕ → ℕ → ℕ → Numbers
numbers year month day = record { year = year; month = month; day = day }

-- the year by the rule for short years; none where it is refused, or is one that no date can have
abbrev pub by_rule : Short → ℕ → Option ℕ
by_rule Refuse year = None
by_rule Keep year = Some year
by_rule (Add more) year = Some (year + more)

abbrev pub if_written : Option ℕ → Option ℕ
if_written None = None
if_written (Some year) = if nat_le year 99_999 then Some year else None

abbrev pub year_of : Choice → Calendar → Numeral → Option ℕ
year_of choice calendar year = if_written (by_rule (short_rule choice calendar year) year.value)

-- the first and the last date, in a year with these months
abbrev pub first_in : Extent → ℕ → List Month → Numbers
first_in (extent.Day d) year months = numbers year d.month d.day
first_in (extent.Month y month) year months = numbers year month 1
first_in (extent.Adar y) year months = numbers year 12 1
first_in (extent.Year y) year months = numbers year (first_month months) 1
first_in (extent.LastDay y month) year months = numbers year month (days_of_month months month)
first_in (extent.PartOfYear y from to) year months = numbers year from 1
first_in (extent.Months y from z to) year months = numbers year from 1
first_in (extent.Years y z) year months = numbers year (first_month months) 1

abbrev pub last_in : Extent → ℕ → List Month → Numbers
last_in (extent.Day d) year months = numbers year d.month d.day
last_in (extent.Month y month) year months = numbers year month (days_of_month months month)
last_in (extent.Adar y) year months = numbers year (last_adar months) (days_of_month months (last_adar months))
last_in (extent.Year y) year months = numbers year (last_month months) (days_of_month months (last_month months))
last_in (extent.LastDay y month) year months = numbers year month (days_of_month months month)
last_in (extent.PartOfYear y from to) year months = numbers year to (days_of_month months to)
last_in (extent.Months y from z to) year months = numbers year to (days_of_month months to)
last_in (extent.Years y z) year months = numbers year (last_month months) (days_of_month months (last_month months))

-- the year of the last day
abbrev pub last_year_in : Extent → Numeral
last_year_in (extent.Months y from z to) = z
last_year_in (extent.Years y z) = z
last_year_in said = year_in said

abbrev pub first_of : Choice → Calendar → Extent → Option Numbers
first_of choice calendar said =
    option_map (λ year. first_in said year (months_of calendar year)) (year_of choice calendar (year_in said))

abbrev pub last_of : Choice → Calendar → Extent → Option Numbers
last_of choice calendar said =
    option_map (λ year. last_in said year (months_of calendar year)) (year_of choice calendar (last_year_in said))

-- a weekday, or a day of a decade, beside a day has to be that of the date
abbrev pub agrees_beside : Calendar → ℕ → SaidDay → Option Item → Bool
agrees_beside calendar year d None = true
agrees_beside calendar year d (Some item) = agrees calendar year d.month d.day item

-- and where a year has Adar twice, a day of Adar is none
abbrev pub day_in_year : Calendar → SaidDay → Option ℕ → Bool
day_in_year calendar d None = true
day_in_year calendar d (Some year) =
    agrees_beside calendar year d d.beside && not (d.adar && has_two_adars (months_of calendar year))

abbrev pub holds : Choice → Calendar → Extent → Bool
holds choice calendar (extent.Day d) = day_in_year calendar d (year_of choice calendar d.year)
holds choice calendar said = true

abbrev pub all_hold : Choice → Calendar → Said → Bool
all_hold choice calendar (said.One e) = holds choice calendar e
all_hold choice calendar (said.Range a b) = holds choice calendar a && holds choice calendar b
all_hold choice calendar (said.Between a b) = holds choice calendar a && holds choice calendar b
all_hold choice calendar (said.Before e) = holds choice calendar e
all_hold choice calendar (said.After e) = holds choice calendar e
all_hold choice calendar (said.From e) = holds choice calendar e
all_hold choice calendar (said.Until e) = holds choice calendar e
all_hold choice calendar said.Undated = true

-- what is said, where this holds of each of its days
abbrev pub if_held : Choice → Calendar → Option Said → Option Said
if_held choice calendar None = None
if_held choice calendar (Some said) = if all_hold choice calendar said then Some said else None

-- the text of a date; nothing where there is none
abbrev pub date_text : Option Numbers → List ℕ
date_text None = []
date_text (Some date) = dated date.year date.month date.day

-- the numbers are a date that the calendar has, on day n
pub record HasDay (calendar : Calendar) (date : Numbers) (n : ℤ) : Type 0 where
  pub ymd : Ymd
  pub year_is : ymd.year ≡ pos date.year
  pub month_is : ymd.month ≡ date.month
  pub day_is : ymd.day ≡ date.day
  pub has : IsDateBy (reckoning calendar) ymd
  pub number : day_number_by (reckoning calendar) ymd ≡ n
  pub in_range : IsDayNumber n

-- the text is the date of the calendar on day n, or nothing where there is no such day
pub data IsNear (calendar : Calendar) (n : ℤ) (text : List ℕ) : Type 0 where
  there : IsDayNumber n → IsDateCell calendar n text → IsNear calendar n text
  past : ¬ IsDayNumber n → text ≡ [] → IsNear calendar n text

-- the day before and the day after
abbrev pub step : Side → ℤ
step sides.Before = negsuc 0
step sides.After = pos 1

-- the text is the date of the calendar on the day before a date, or after it; the date itself where it is none
pub data IsBeside (calendar : Calendar) (side : Side) (date : Numbers) (text : List ℕ) : Type 0 where
  of_day : (n : ℤ) → HasDay calendar date n → IsNear calendar (n +ℤ step side) text → IsBeside calendar side date text
  no_day : ((n : ℤ) → ¬ HasDay calendar date n) → text ≡ date_text (Some date) → IsBeside calendar side date text

abbrev pub IfBeside : Calendar → Side → Option Numbers → List ℕ → Type 0
IfBeside calendar side None text = text ≡ []
IfBeside calendar side (Some date) text = IsBeside calendar side date text

-- whether both dates have days, and the second one's lies before the first one's
pub data IsTurned (calendar : Calendar) (a b : Numbers) : Bool → Type 0 where
  behind : (n k : ℤ) → HasDay calendar a n → HasDay calendar b k → k <ℤ n → IsTurned calendar a b true
  in_order : (n k : ℤ) → HasDay calendar a n → HasDay calendar b k → n ≤ℤ k → IsTurned calendar a b false
  no_first : ((n : ℤ) → ¬ HasDay calendar a n) → IsTurned calendar a b false
  no_last : ((n : ℤ) → ¬ HasDay calendar b n) → IsTurned calendar a b false

-- from a date to a date; where they are turned, they say nothing, and the text stays
abbrev pub AreDates : Calendar → Numbers → Numbers → List ℕ → List ℕ → List ℕ → Bool → Type 0
AreDates calendar a b text first last true = IsTurned calendar a b true × (first ≡ text) × (last ≡ text)
AreDates calendar a b text first last false =
    IsTurned calendar a b false × (first ≡ date_text (Some a)) × (last ≡ date_text (Some b))

abbrev pub IfInOrder : Calendar → Option Numbers → Option Numbers → List ℕ → List ℕ → List ℕ → Bool → Type 0
IfInOrder calendar (Some a) (Some b) text first last turned = AreDates calendar a b text first last turned
IfInOrder calendar a b text first last turned = (first ≡ []) × (last ≡ []) × (turned ≡ false)

-- the first and the last day of what a text says, and whether its dates are turned
abbrev pub AreEnds : Choice → Calendar → List ℕ → Said → List ℕ → List ℕ → Bool → Type 0
AreEnds choice calendar text (said.One e) first last turned =
    (first ≡ date_text (first_of choice calendar e)) × (last ≡ date_text (last_of choice calendar e))
    × (turned ≡ false)
AreEnds choice calendar text (said.Range a b) first last turned =
    IfInOrder calendar (first_of choice calendar a) (last_of choice calendar b) text first last turned
AreEnds choice calendar text (said.Between a b) first last turned =
    IfInOrder calendar (first_of choice calendar a) (last_of choice calendar b) text first last turned
AreEnds choice calendar text (said.Before e) first last turned =
    (first ≡ []) × IfBeside calendar sides.Before (first_of choice calendar e) last × (turned ≡ false)
AreEnds choice calendar text (said.After e) first last turned =
    IfBeside calendar sides.After (last_of choice calendar e) first × (last ≡ []) × (turned ≡ false)
AreEnds choice calendar text (said.From e) first last turned =
    (first ≡ date_text (first_of choice calendar e)) × (last ≡ []) × (turned ≡ false)
AreEnds choice calendar text (said.Until e) first last turned =
    (first ≡ []) × (last ≡ date_text (last_of choice calendar e)) × (turned ≡ false)
AreEnds choice calendar text said.Undated first last turned = (first ≡ []) × (last ≡ []) × (turned ≡ false)
