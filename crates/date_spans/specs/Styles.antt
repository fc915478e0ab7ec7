-- A day in two styles, as `10/22 stycznia 1863`: the Julian date before a slash, and the Gregorian one behind it.
use Rattle.std.specs.Prelude.{◌≡◌, ◌≢◌, ℕ, ℤ, Bool, true, false, not, ◌&&◌, if◌then◌else◌, List, Option, Some, None}
use Rattle.date_texts.specs.declared.calendar.Calendar.{Calendar}
use Rattle.date_texts.specs.declared.calendar.Calendar.TheVariants.{Gregorian, Julian}
use Rattle.written_dates.specs.declared.items.Item.{Item}
use Rattle.written_dates.specs.declared.meanings.Name.{Name}
use Rattle.written_dates.specs.declared.written.Choice.{Choice}
use Rattle.written_dates.specs.Signs.{has_other}
use Rattle.written_dates.specs.Tokens.{tokens}
use Rattle.date_spans.specs.declared.cuts.Cut.TheVariants.{Slash}
use Rattle.date_spans.specs.declared.ends.Numbers.{Numbers}
use Rattle.date_spans.specs.declared.extents.Extent.{Extent}
use Rattle.date_spans.specs.declared.extents.Extent.TheVariants as extent
use Rattle.date_spans.specs.Cuts.{sides}
use Rattle.date_spans.specs.declared.sayings.RangeSigns.{RangeSigns}
use Rattle.date_spans.specs.Ends.{HasDay, date_text, first_of, holds}
use Rattle.date_spans.specs.Extents.{extent_of}
use Rattle.date_spans.specs.Sayings.{left_of}
use Rattle.date_spans.specs.Sides.{items_in, one_side}

-- the date of a day that is said, where it is so
abbrev pub date_of : Choice → Calendar → Option Extent → Option Numbers
date_of choice calendar (Some (extent.Day d)) =
    if holds choice calendar (extent.Day d) then first_of choice calendar (extent.Day d) else None
date_of choice calendar said = None

abbrev pub both_dates : Option Numbers → Option Numbers → Option (Numbers × Numbers)
both_dates (Some a) (Some b) = Some (a, b)
both_dates a b = None

-- the Julian date that the items before a slash say with what they lack of those behind it, and the Gregorian one
-- behind it
abbrev pub of_items : Choice → RangeSigns → Option (List Item) → Option (List Item) → Option (Numbers × Numbers)
of_items choice signs (Some left) (Some right) =
    both_dates (date_of choice Julian (left_of Julian signs choice.order left right))
    (date_of choice Gregorian (extent_of Gregorian signs.right choice.order right))
of_items choice signs left right = None

-- the signs of the two sides: the slash between them is none of theirs
abbrev pub style_sides : List ℕ → List ℕ → RangeSigns
style_sides left right = record {
  left = one_side left;
  shared = one_side right;
  right = one_side right;
}

abbrev pub of_texts : Choice → List Name → Option (List ℕ × List ℕ) → Option (Numbers × Numbers)
of_texts choice names None = None
of_texts choice names (Some two) =
    of_items choice (style_sides two.0 two.1) (items_in Julian names two.0) (items_in Gregorian names two.1)

unfoldable pub two_dates : Choice → List Name → List ℕ → Option (Numbers × Numbers)
two_dates choice names text = of_texts choice names (sides Slash text)

-- the Gregorian date of two that are one day; none where they are not
pub data IsOneDay (a b : Numbers) : Option Numbers → Type 0 where
  one_day : (n : ℤ) → HasDay Julian a n → HasDay Gregorian b n → IsOneDay a b (Some b)
  two_days : (n k : ℤ) → HasDay Julian a n → HasDay Gregorian b k → n ≢ k → IsOneDay a b None
  no_julian : ((n : ℤ) → ¬ HasDay Julian a n) → IsOneDay a b None
  no_gregorian : ((n : ℤ) → ¬ HasDay Gregorian b n) → IsOneDay a b None

-- the Gregorian date of the day that a text says in both styles
abbrev pub IsOfBoth : Option (Numbers × Numbers) → Option Numbers → Type 0
IsOfBoth None date = date ≡ None
IsOfBoth (Some two) date = IsOneDay two.0 two.1 date

-- what is written for a text in both styles: that date; where there is none, the text stays
abbrev pub written_by : List ℕ → Option Numbers → List ℕ
written_by text None = text
written_by text (Some date) = date_text (Some date)

abbrev pub IsWrittenInBoth : Choice → List Name → List ℕ → List ℕ → Type 0
IsWrittenInBoth choice names text written =
    (date : Option Numbers) × IsOfBoth (two_dates choice names text) date × (written ≡ written_by text date)

-- ---- in a column of one calendar
-- in the Gregorian and the Julian calendar the two dates that a text says in both styles, where each of its characters
-- is one that dates have
abbrev pub has_styles : Calendar → Bool
has_styles Gregorian = true
has_styles Julian = true
has_styles calendar = false

unfoldable pub styles_in : Choice → Calendar → List Name → List ℕ → Option (Numbers × Numbers)
styles_in choice calendar names text =
    if has_styles calendar && not (has_other (tokens 0 text)) then two_dates choice names text else None

-- of these the one of the calendar, where both are one day
abbrev pub own_style : Calendar → Option (Numbers × Numbers) → Option Numbers → Option Numbers
own_style Julian (Some two) (Some day) = Some two.0
own_style calendar two day = day

-- the date in a calendar of the day that a text says in both styles
abbrev pub IsOwnDay : Choice → Calendar → List Name → List ℕ → Option Numbers → Type 0
IsOwnDay choice calendar names text own =
    (day : Option Numbers) × IsOfBoth (styles_in choice calendar names text) day
    × (own ≡ own_style calendar (styles_in choice calendar names text) day)
