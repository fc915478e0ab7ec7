-- A feast as a side of a saying: the day on which it is in its year.
use Rattle.std.specs.Prelude.{ℕ, ◌-◌, Bool, not, ◌&&◌, ◌||◌, nat_le, if◌then◌else◌, pos, List, [], ◌∷◌, length, slice_get}
use Rattle.std.specs.Prelude.{Option, Some, None}
use Rattle.church_year.specs.declared.feasts.Feast.{Feast as Festival}
use Rattle.church_year.specs.declared.feasts.Feast.TheVariants.{Sunday}
use Rattle.church_year.specs.declared.feasts.Place.TheVariants.{Days}
use Rattle.church_year.specs.declared.feasts.Season.{Season}
use Rattle.date_texts.specs.declared.calendar.Calendar.{Calendar}
use Rattle.written_dates.specs.declared.items.Number.{Number as Numeral}
use Rattle.written_dates.specs.declared.items.Item.{Item}
use Rattle.written_dates.specs.declared.items.Item.TheVariants.{Number, Feast, Sundays}
use Rattle.written_dates.specs.declared.rules.Order.{Order}
use Rattle.written_dates.specs.Items.{is_long, is_of_calendar}
use Rattle.written_dates.specs.Rules.{beside_weekday}
use Rattle.written_dates.specs.Written.{church_of, feast_of}
use Rattle.date_spans.specs.declared.extents.Extent.{Extent}
use Rattle.date_spans.specs.declared.extents.Extent.TheVariants as extent
use Rattle.date_spans.specs.declared.extents.Signs.{Signs}
use Rattle.date_spans.specs.Extents.{if_year, is_letter, or_else, plain_extent, said_day, weekday_among}
use Rattle.date_spans.specs.Extents.{with_weekday}

-- a year of the calendar that is never short, and no Roman C, D or M alone
abbrev pub is_whole : Numeral → Bool
is_whole year =
    (nat_le 100 year.value || nat_le 3 year.digits) && not (is_letter year) && is_of_calendar year.year

abbrev pub day_found : Numeral → Option (ℕ × ℕ) → Option Extent
day_found year None = None
day_found year (Some found) = Some (extent.Day (said_day year found.0 found.1))

-- the day of a feast in a year that has it, in the calendar of a church
abbrev pub feast_in : Calendar → Numeral → Festival → Option Extent
feast_in calendar year feast =
    if is_whole year then day_found year (feast_of (church_of calendar) year.value feast (Days (pos 0))) else None

-- a number that may be that of a Sunday
abbrev pub counts_sundays : Numeral → Bool
counts_sundays n = not (is_long n) && not n.day && nat_le n.value 255

abbrev pub sunday_in : Calendar → Numeral → Season → Numeral → Option Extent
sunday_in calendar n season year = if counts_sundays n then feast_in calendar year (Sunday season n.value) else None

-- a feast, or a numbered Sunday, and the year
abbrev pub feast_extent : Calendar → List Item → Option Extent
feast_extent calendar (Feast feast ∷ Number year ∷ []) = feast_in calendar year feast
feast_extent calendar (Number n ∷ Sundays season ∷ Number year ∷ []) = sunday_in calendar n season year
feast_extent calendar items = None

-- the same without the year, in the year that another side has at its end
abbrev pub yearless_feast : Calendar → List Item → Numeral → Option Extent
yearless_feast calendar (Feast feast ∷ []) year = feast_in calendar year feast
yearless_feast calendar (Number n ∷ Sundays season ∷ []) year = sunday_in calendar n season year
yearless_feast calendar items year = None

abbrev pub in_year_of_item : Calendar → List Item → Option Item → Option Extent
in_year_of_item calendar left (Some (Number year)) = yearless_feast calendar left year
in_year_of_item calendar left item = None

abbrev pub in_year_of : Calendar → List Item → List Item → Option Extent
in_year_of calendar left right = in_year_of_item calendar left (slice_get right (length right - 1))

-- what a side says without a weekday, and with one
abbrev pub bare_side : Calendar → Signs → Order → List Item → Option Extent
bare_side calendar signs order items = or_else (plain_extent signs order items) (feast_extent calendar items)

abbrev pub side_of : Calendar → Signs → Order → List Item → Option Extent
side_of calendar signs order items =
    if_year calendar (with_weekday (weekday_among items) (bare_side calendar signs order (beside_weekday items)))
