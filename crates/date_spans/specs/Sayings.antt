-- What items with words say: how much, and whether they mean it, what lies before it or what lies after it.
use Rattle.std.specs.List.{list_any}
use Rattle.std.specs.Prelude.{ℕ, ◌+◌, ◌-◌, ◌%◌, Bool, true, false, not, ◌&&◌, ◌||◌, ◌==◌, nat_lt, if◌then◌else◌}
use Rattle.std.specs.Prelude.{List, [], ◌∷◌, ◌++◌, length, take, drop, position, slice_get, Option, Some, None, option_map}
use Rattle.date_texts.specs.declared.calendar.Calendar.{Calendar}
use Rattle.date_texts.specs.declared.calendar.Calendar.TheVariants.{Julian}
use Rattle.written_dates.specs.declared.items.Number.{Number as Numeral}
use Rattle.written_dates.specs.declared.items.Item.{Item}
use Rattle.written_dates.specs.declared.items.Item.TheVariants.{Number, Relation as Related, Word as Worded}
use Rattle.written_dates.specs.declared.meanings.Relation.TheVariants as relations
use Rattle.written_dates.specs.declared.meanings.Word.{Word}
use Rattle.written_dates.specs.declared.meanings.Word.TheVariants as words
use Rattle.written_dates.specs.declared.rules.Order.{Order}
use Rattle.written_dates.specs.Items.{is_long, is_of_calendar}
use Rattle.written_dates.specs.Rules.{beside_weekday}
use Rattle.date_spans.specs.declared.extents.Extent.{Extent}
use Rattle.date_spans.specs.declared.extents.Extent.TheVariants as extent
use Rattle.date_spans.specs.declared.extents.Signs.{Signs}
use Rattle.date_spans.specs.declared.sayings.Kind.{Kind}
use Rattle.date_spans.specs.declared.sayings.Kind.TheVariants as kinds
use Rattle.date_spans.specs.declared.sayings.RangeSigns.{RangeSigns}
use Rattle.date_spans.specs.declared.sayings.Said.{Said}
use Rattle.date_spans.specs.declared.sayings.Said.TheVariants as said
use Rattle.date_spans.specs.Extents.{day_of_year, extent_of, if_year, or_else, weekday_among, with_weekday, year_in}
use Rattle.date_spans.specs.FeastSides.{bare_side, in_year_of, side_of}

abbrev pub is_about_word : Word → Bool
is_about_word words.About = true
is_about_word word = false

abbrev pub is_about : Item → Bool
is_about (Worded w) = is_about_word w
is_about item = false

-- items behind a word for `about`, if it is in front
abbrev pub without_about : List Item → List Item
without_about [] = []
without_about (first ∷ rest) = if is_about first then rest else first ∷ rest

-- what a side says by itself
abbrev pub piece : Calendar → Signs → Order → List Item → Option Extent
piece calendar signs order items = side_of calendar signs order (without_about items)

abbrev pub both : Bool → Option Extent → Option Extent → Option Said
both true (Some a) (Some b) = Some (said.Between a b)
both false (Some a) (Some b) = Some (said.Range a b)
both between a b = None

-- items, with what they lack of those of the right side, or a feast in its year; nothing where there are none
abbrev pub completed : Calendar → Signs → Order → List Item → List Item → Option Extent
completed calendar signs order [] right = None
completed calendar signs order (item ∷ left) right =
    or_else (bare_side calendar signs order ((item ∷ left) ++ drop (length (item ∷ left)) right))
    (in_year_of calendar (item ∷ left) right)

-- a left side that says nothing by itself has behind it what it lacks of the right side's items, weekdays aside
abbrev pub left_of : Calendar → RangeSigns → Order → List Item → List Item → Option Extent
left_of calendar signs order left right =
    or_else (side_of calendar signs.left order left)
    (if_year calendar (with_weekday (weekday_among left)
    (completed calendar signs.shared order (beside_weekday left) (beside_weekday right))))

-- the left of two sides has a year, and one of them has years of another era, but not both
abbrev pub is_long_number : Item → Bool
is_long_number (Number n) = is_long n
is_long_number item = false

abbrev pub is_of_other_era : Item → Bool
is_of_other_era (Number n) = not (is_of_calendar n.year)
is_of_other_era item = false

abbrev pub are_mixed : List Item → List Item → Bool
are_mixed left right =
    list_any is_long_number left
    && (if list_any is_of_other_era left
    then not (list_any is_of_other_era right) else list_any is_of_other_era right)

-- from one side to the other, or between both
abbrev pub range_of : Bool → Calendar → RangeSigns → Order → List Item → List Item → Option Said
range_of between calendar signs order left right =
    if are_mixed left right then None
    else both between (left_of calendar signs order (without_about left) (without_about right))
    (piece calendar signs.right order right)

-- words that part two sides; `and` does so behind `between` alone
abbrev pub parts_word : Bool → Word → Bool
parts_word between words.To = true
parts_word between words.And = between
parts_word between word = false

abbrev pub parts_sides : Bool → Item → Bool
parts_sides between (Worded w) = parts_word between w
parts_sides between item = false

-- the signs of the whole text for each side
abbrev pub all_alike : Signs → RangeSigns
all_alike signs = record { left = signs; shared = signs; right = signs }

-- what the sides before and behind a place say; where there is none, what is said alone
abbrev pub at_word : Bool → Calendar → Signs → Order → Option Said → List Item → Option ℕ → Option Said
at_word between calendar signs order alone items None = alone
at_word between calendar signs order alone items (Some place) =
    range_of between calendar (all_alike signs) order (take place items) (drop (place + 1) items)

-- items that a word parts, by the signs of such a text, or one side alone
abbrev pub parted : Bool → Calendar → Signs → Order → Option Said → List Item → Option Said
parted between calendar signs order alone items =
    at_word between calendar signs order alone items (position (parts_sides between) items)

-- that no date is known is said by its word alone
abbrev pub undated : List Item → Option Said
undated [] = Some said.Undated
undated (item ∷ rest) = None

-- what is said behind a word, by the signs of a text that is one side, and by those of one that a word parts
abbrev pub by_word : Calendar → Signs → Signs → Order → Word → List Item → List Item → Option Said
by_word calendar one two order words.To rest whole = option_map said.Until (piece calendar one order rest)
by_word calendar one two order words.From rest whole =
    parted false calendar two order (option_map said.From (piece calendar one order rest)) rest
by_word calendar one two order words.Between rest whole = parted true calendar two order None rest
by_word calendar one two order words.And rest whole = None
by_word calendar one two order words.Undated rest whole = undated rest
by_word calendar one two order words.About rest whole =
    parted false calendar two order (option_map said.One (piece calendar one order whole)) whole

-- what the items of a text say, which has these signs as one side, and those as two
abbrev pub said_by : Calendar → Signs → Signs → Order → List Item → Option Said
said_by calendar one two order (Related relations.Before ∷ rest) = option_map said.Before (piece calendar one order rest)
said_by calendar one two order (Related relations.After ∷ rest) = option_map said.After (piece calendar one order rest)
said_by calendar one two order (Worded w ∷ rest) = by_word calendar one two order w rest (Worded w ∷ rest)
said_by calendar one two order items =
    parted false calendar two order (option_map said.One (piece calendar one order items)) items

-- words in front of the left of two sides
abbrev pub opens_sides : Word → Bool
opens_sides words.From = true
opens_sides words.Between = true
opens_sides word = false

abbrev pub left_side : List Item → List Item
left_side [] = []
left_side (Worded w ∷ rest) = if opens_sides w then rest else Worded w ∷ rest
left_side (item ∷ rest) = item ∷ rest

abbrev pub is_between : List Item → Bool
is_between (Worded words.Between ∷ rest) = true
is_between items = false

-- what the items before and behind a dash say
abbrev pub said_of_sides : Calendar → RangeSigns → Order → List Item → List Item → Option Said
said_of_sides calendar signs order left right =
    range_of (is_between left) calendar signs order (left_side left) right

-- what is said before the slash of a dual year: no feast, which is on another day in the other year, and no year of
-- another era
abbrev pub before_slash : Calendar → Signs → Order → List Item → Option Extent
before_slash calendar signs order items =
    if list_any is_of_other_era items then None else extent_of calendar signs order (without_about items)

-- the year after a year, and whether a number behind a slash says it: in full, or by its last two digits
abbrev pub next_year : Numeral → Numeral
next_year y = record { value = y.value + 1; digits = y.digits; named = y.named; year = y.year; day = y.day }

abbrev pub is_next : Numeral → Numeral → Bool
is_next y z =
    nat_lt y.value 99_999
    && ((z.value == y.value + 1) || ((z.digits == 2) && (z.value == (y.value + 1) % 100)))

-- what a saying is
abbrev pub kind_of : Said → Kind
kind_of (said.One e) = kinds.One
kind_of (said.Range a b) = kinds.Range
kind_of (said.Between a b) = kinds.Between
kind_of (said.Before e) = kinds.Before
kind_of (said.After e) = kinds.After
kind_of (said.From e) = kinds.From
kind_of (said.Until e) = kinds.Until
kind_of said.Undated = kinds.Undated

abbrev pub is_julian : Calendar → Bool
is_julian Julian = true
is_julian calendar = false

-- before 25 March, with which the year began whose number stands before the slash
abbrev pub is_before_new_year : ℕ → ℕ → Bool
is_before_new_year month day = nat_lt month 3 || ((month == 3) && nat_lt day 25)

-- of a date that both years have, the one in the later year
abbrev pub in_later_year : Calendar → Extent → Option Said
in_later_year calendar (extent.Month y month) =
    if is_julian calendar && nat_lt month 3 then Some (said.One (extent.Month (next_year y) month)) else None
in_later_year calendar (extent.Day d) =
    if is_julian calendar && is_before_new_year d.month d.day
    then Some (said.One (extent.Day (day_of_year d (next_year d.year)))) else None
in_later_year calendar e = None

-- what two years say; without a month both
abbrev pub of_both_years : Calendar → Extent → Option Said
of_both_years calendar (extent.Year y) = Some (said.Range (extent.Year y) (extent.Year (next_year y)))
of_both_years calendar e = in_later_year calendar e

-- a dual year: the number behind the slash is that of the year after
abbrev pub of_dual : Calendar → Numeral → Extent → Option Said
of_dual calendar z e = if is_next (year_in e) z then of_both_years calendar e else None

abbrev pub dual_by : Calendar → Option Extent → List Item → Option Said
dual_by calendar (Some left) (Number z ∷ []) = of_dual calendar z left
dual_by calendar left right = None

-- the number behind a slash is the year after the one before it
abbrev pub is_dual_by : Option Extent → List Item → Bool
is_dual_by (Some left) (Number z ∷ []) = is_next (year_in left) z
is_dual_by left right = false

abbrev pub is_dual_of : Calendar → Signs → Order → List Item → List Item → Bool
is_dual_of calendar signs order left right = is_dual_by (before_slash calendar signs order left) right

-- what the items before and behind a slash say
abbrev pub said_of_dual : Calendar → Signs → Order → List Item → List Item → Option Said
said_of_dual calendar signs order left right = dual_by calendar (before_slash calendar signs order left) right

-- ---- years that are written shorter, as `1660/1` and `1648-49`
-- a number says the year after a year by its last digit, where both are in the same ten years, or by its last two
abbrev pub is_next_in_short : Numeral → Numeral → Bool
is_next_in_short y z =
    nat_lt y.value 99_999
    && (((z.digits == 1) && (z.value == y.value % 10 + 1)) || ((z.digits == 2) && (z.value == (y.value + 1) % 100)))

-- a year is the last of items
abbrev pub is_year : Option Item → Bool
is_year (Some (Number y)) = is_long y
is_year item = false

abbrev pub ends_with_year : List Item → Bool
ends_with_year items = is_year (slice_get items (length items - 1))

abbrev pub short_by : Calendar → Option Extent → List Item → Option Said
short_by calendar (Some left) (Number z ∷ []) =
    if is_next_in_short (year_in left) z then in_later_year calendar left else None
short_by calendar left right = None

-- what the items before and behind such a sign say: of a day or a month before 25 March, with the year last, that in the
-- year after
abbrev pub said_of_short : Calendar → Signs → Order → List Item → List Item → Option Said
said_of_short calendar signs order left right =
    if ends_with_year left then short_by calendar (before_slash calendar signs order left) right else None
