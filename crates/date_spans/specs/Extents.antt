-- How much of a calendar items without words say: a day, a month or a year.
use Rattle.std.specs.Prelude.{ℕ, ◌+◌, ◌-◌, ◌*◌, ◌/◌, ◌%◌, Bool, true, false, not, ◌&&◌, ◌||◌, ◌==◌, nat_le, nat_lt}
use Rattle.std.specs.Prelude.{if◌then◌else◌, List, [], ◌∷◌, map, Option, Some, None, is_some}
use Rattle.std.specs.List.{list_any}
use Rattle.date_texts.specs.declared.calendar.Calendar.{Calendar}
use Rattle.date_texts.specs.declared.calendar.Calendar.TheVariants.{Gregorian, Hebrew, Islamic, Julian}
use Rattle.written_dates.specs.declared.items.Number.{Number as Numeral}
use Rattle.written_dates.specs.declared.items.Item.{Item}
use Rattle.written_dates.specs.declared.items.Item.TheVariants.{Adar, Century, Decade, LastDay, Number, Month, Months, Part}
use Rattle.written_dates.specs.declared.items.Item.TheVariants.{DecadeDay, Weekday}
use Rattle.written_dates.specs.declared.meanings.Era.{Era}
use Rattle.written_dates.specs.declared.meanings.Era.TheVariants as eras
use Rattle.written_dates.specs.declared.rules.InYear.TheVariants as named
use Rattle.written_dates.specs.declared.rules.Order.{Order}
use Rattle.written_dates.specs.declared.rules.Reading.{Reading}
use Rattle.written_dates.specs.declared.rules.Reading.TheVariants.{Civil}
use Rattle.written_dates.specs.Items.{is_long, is_of_calendar}
use Rattle.written_dates.specs.Rules.{beside_weekday, is_year_first, plain_reading}
use Rattle.written_dates.specs.Written.{has_year, is_half_year}
use Rattle.date_spans.specs.declared.extents.Extent.{Extent}
use Rattle.date_spans.specs.declared.extents.Extent.TheVariants as extent
use Rattle.date_spans.specs.declared.extents.SaidDay.{SaidDay}
use Rattle.date_spans.specs.declared.extents.Signs.{Signs}

abbrev pub or_else : {A : Type 0} → Option A → Option A → Option A
or_else None other = other
or_else (Some x) other = Some x

-- Roman C, D or M alone
abbrev pub is_letter : Numeral → Bool
is_letter n = not (is_some n.year) && (n.digits == 0) && ((n.value == 100) || ((n.value == 500) || (n.value == 1000)))

abbrev pub if_long : Numeral → Extent → Option Extent
if_long year said = if is_long year && not (is_letter year) then Some said else None

-- a number that may be that of a month: no long one, no name, and none that counts days
abbrev pub is_of_month : Numeral → Bool
is_of_month n = not (is_long n) && not n.named && not n.day

-- two numbers, one of them long: with year first the long one is first, where no slash stands in the text; else it is
-- last. The other is the month.
abbrev pub two_numbers : Bool → Order → Numeral → Numeral → Option Extent
two_numbers slashed order a b =
    if is_year_first order
    then (if is_of_month b && not slashed then if_long a (extent.Month a b.value) else None)
    else (if is_of_month a then if_long b (extent.Month b a.value) else None)

-- ---- parts of a year, and more than one year
-- a year by its number alone
abbrev pub whole_year : ℕ → Numeral
whole_year year = record { value = year; digits = 0; named = false; year = Some eras.Calendar; day = false }

-- so many from the start lie before a part of some that are alike, and so many up to its end
abbrev pub before_part : ℕ → ℕ → ℕ → ℕ
before_part whole place parts = whole * (place - 1) / parts

abbrev pub up_to_part : ℕ → ℕ → ℕ → ℕ
up_to_part whole place parts = whole * place / parts

-- one of two, three or four parts
abbrev pub is_part : ℕ → ℕ → Bool
is_part place parts = nat_le 1 place && nat_le place parts && nat_le 2 parts && nat_le parts 4

-- a part of the second to the thirtieth century, whose first year ends with 00 or 01: 1700 to 1799, or 1701 to 1800
abbrev pub part_of_century : ℕ → ℕ → Numeral → ℕ → Option Extent
part_of_century place parts n first =
    if not (is_long n) && not n.day && nat_le 2 n.value && nat_le n.value 30 && nat_le first 1
    then Some (extent.Years
    (whole_year (100 * (n.value - 1) + first + before_part 100 place parts))
    (whole_year (100 * (n.value - 1) + first + up_to_part 100 place parts - 1)))
    else None

abbrev pub century : Numeral → ℕ → Option Extent
century n first = part_of_century 1 1 n first

abbrev pub if_part : ℕ → ℕ → Option Extent → Option Extent
if_part place parts said = if is_part place parts then said else None

-- a part of a year of twelve months
abbrev pub part_of_year : ℕ → ℕ → Numeral → Option Extent
part_of_year place parts year =
    if_part place parts
    (if_long year (extent.PartOfYear year (before_part 12 place parts + 1) (up_to_part 12 place parts)))

-- ten years, of which the first ends with 0, and not with 00, which may mean a hundred
abbrev pub decade : Numeral → Option Extent
decade n =
    if nat_le 100 n.value && nat_le n.value 99_999 && (n.value % 10 == 0) && not (n.value % 100 == 0)
    && is_of_calendar n.year
    then Some (extent.Years (whole_year n.value) (whole_year (n.value + 9))) else None

-- a long number is a year; with a month by name, or a part of a year, it is the year of this
abbrev pub month_or_year : Bool → Order → List Item → Option Extent
month_or_year slashed order (Number a ∷ []) = if_long a (extent.Year a)
month_or_year slashed order (Month m ∷ Number a ∷ []) = if_long a (extent.Month a m)
month_or_year slashed order (Number a ∷ Month m ∷ []) = if_long a (extent.Month a m)
month_or_year slashed order (Months from to ∷ Number a ∷ []) = if_long a (extent.Months a from a to)
month_or_year slashed order (Number a ∷ Months from to ∷ []) = if_long a (extent.Months a from a to)
month_or_year slashed order (Century first ∷ Number n ∷ []) = century n first
month_or_year slashed order (Number n ∷ Century first ∷ []) = century n first
month_or_year slashed order (Part place parts ∷ Century first ∷ Number n ∷ []) =
    if_part place parts (part_of_century place parts n first)
month_or_year slashed order (Part place parts ∷ Number n ∷ Century first ∷ []) =
    if_part place parts (part_of_century place parts n first)
month_or_year slashed order (Part place parts ∷ Number a ∷ []) = part_of_year place parts a
month_or_year slashed order (LastDay ∷ Month m ∷ Number a ∷ []) = if_long a (extent.LastDay a m)
month_or_year slashed order (Number n ∷ Decade ∷ []) = decade n
month_or_year slashed order (Number a ∷ Number b ∷ []) = two_numbers slashed order a b
month_or_year slashed order items = None

-- a day by the rules for dates; none where three numbers have signs that differ
abbrev pub are_numbers : List Item → Bool
are_numbers (Number a ∷ Number b ∷ Number c ∷ []) = true
are_numbers items = false

abbrev pub day_reading : Bool → Order → List Item → Option Reading
day_reading mixed order items = if mixed && are_numbers items then None else plain_reading [] order items

abbrev pub said_day : Numeral → ℕ → ℕ → SaidDay
said_day year month day = record { year = year; month = month; day = day; adar = false; beside = None }

-- where its year is long
abbrev pub day_by : Option Reading → Option Extent
day_by (Some (Civil year (named.Day month day))) = if_long year (extent.Day (said_day year month day))
day_by reading = None

abbrev pub named_extent : Signs → Order → List Item → Option Extent
named_extent signs order items =
    or_else (month_or_year signs.slashed order items) (day_by (day_reading signs.mixed order items))

-- Adar by itself is month 12 here, and stands beside what is said
abbrev pub is_adar : Item → Bool
is_adar Adar = true
is_adar item = false

abbrev pub as_month : Item → Item
as_month Adar = Month 12
as_month item = item

abbrev pub day_in_adar : SaidDay → SaidDay
day_in_adar d = record { year = d.year; month = d.month; day = d.day; adar = true; beside = d.beside }

abbrev pub in_adar : Bool → Option Extent → Option Extent
in_adar true (Some (extent.Month year month)) = Some (extent.Adar year)
in_adar true (Some (extent.Day d)) = Some (extent.Day (day_in_adar d))
in_adar true said = None
in_adar false said = said

abbrev pub plain_extent : Signs → Order → List Item → Option Extent
plain_extent signs order items = in_adar (list_any is_adar items) (named_extent signs order (map as_month items))

-- the weekday, or the day of a decade, that stands in front of items, or behind three
abbrev pub weekday_among : List Item → Option Item
weekday_among (Weekday w ∷ rest) = Some (Weekday w)
weekday_among (DecadeDay n ∷ rest) = Some (DecadeDay n)
weekday_among (a ∷ b ∷ c ∷ Weekday w ∷ []) = Some (Weekday w)
weekday_among (a ∷ b ∷ c ∷ DecadeDay n ∷ []) = Some (DecadeDay n)
weekday_among items = None

-- it stands beside a day alone
abbrev pub with_weekday : Option Item → Option Extent → Option Extent
with_weekday None said = said
with_weekday (Some w) (Some (extent.Day d)) =
    Some (extent.Day (record { year = d.year; month = d.month; day = d.day; adar = d.adar; beside = Some w }))
with_weekday (Some w) said = None

abbrev pub year_in : Extent → Numeral
year_in (extent.Day d) = d.year
year_in (extent.Month year month) = year
year_in (extent.Adar year) = year
year_in (extent.Year year) = year
year_in (extent.LastDay year month) = year
year_in (extent.PartOfYear year from to) = year
year_in (extent.Months year from last to) = year
year_in (extent.Years year last) = year

-- ---- other eras
-- so many years before, by the calendar's own count, written in full: never short
abbrev pub years_before : ℕ → Numeral → Numeral
years_before years n =
    record { value = n.value - years; digits = 4; named = n.named; year = Some eras.Calendar; day = n.day }

abbrev pub day_of_year : SaidDay → Numeral → SaidDay
day_of_year d year = record { year = year; month = d.month; day = d.day; adar = d.adar; beside = d.beside }

-- what is said of a Spanish year, of 38 years before
abbrev pub from_spanish : Extent → Option Extent
from_spanish (extent.Day d) = Some (extent.Day (day_of_year d (years_before 38 d.year)))
from_spanish (extent.Month y month) = Some (extent.Month (years_before 38 y) month)
from_spanish (extent.LastDay y month) = Some (extent.LastDay (years_before 38 y) month)
from_spanish (extent.Year y) = Some (extent.Year (years_before 38 y))
from_spanish (extent.PartOfYear y from to) = Some (extent.PartOfYear (years_before 38 y) from to)
from_spanish (extent.Months y from z to) = Some (extent.Months (years_before 38 y) from (years_before 38 z) to)
from_spanish said = None

-- of a year from the creation, which begins on 1 September 5509 years before
abbrev pub before_creation : ℕ → ℕ
before_creation month = if nat_le 9 month then 5_509 else 5_508

abbrev pub from_creation : Extent → Option Extent
from_creation (extent.Day d) = Some (extent.Day (day_of_year d (years_before (before_creation d.month) d.year)))
from_creation (extent.Month y month) = Some (extent.Month (years_before (before_creation month) y) month)
from_creation (extent.LastDay y month) = Some (extent.LastDay (years_before (before_creation month) y) month)
from_creation (extent.Year y) = Some (extent.Months (years_before 5_509 y) 9 (years_before 5_508 y) 8)
from_creation (extent.Months y from z to) =
    if before_creation from == before_creation to
    then Some (extent.Months (years_before (before_creation from) y) from (years_before (before_creation to) z) to)
    else None
from_creation said = None

abbrev pub in_calendar : Option Era → Extent → Option Extent
in_calendar (Some eras.Spanish) said = from_spanish said
in_calendar (Some eras.Creation) said = from_creation said
in_calendar era said = Some said

-- each year has twelve months, and begins with the first
abbrev pub has_twelve_months : Calendar → Bool
has_twelve_months Gregorian = true
has_twelve_months Julian = true
has_twelve_months Islamic = true
has_twelve_months calendar = false

-- months of one year stand in this order in it: a Hebrew year begins with the seventh; and parts are those of twelve
abbrev pub are_in_order : Calendar → Extent → Bool
are_in_order Hebrew (extent.Months year from last to) = (nat_lt from 7 && nat_lt to 7) || (nat_le 7 from && nat_le 7 to)
are_in_order calendar (extent.PartOfYear year from to) = has_twelve_months calendar
are_in_order calendar said = true

-- of a year that the calendar can have in words, and that is written whole
abbrev pub if_year : Calendar → Option Extent → Option Extent
if_year calendar None = None
if_year calendar (Some said) =
    if has_year calendar (year_in said).value && not (is_half_year calendar (year_in said)) && are_in_order calendar said
    then in_calendar (year_in said).year said else None

abbrev pub extent_of : Calendar → Signs → Order → List Item → Option Extent
extent_of calendar signs order items =
    if_year calendar (with_weekday (weekday_among items) (plain_extent signs order (beside_weekday items)))
