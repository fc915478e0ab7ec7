-- The first and the last day that a text can mean.
use Rattle.std.specs.Prelude.{◌≡◌, ℕ, Bool, true, false, not, ◌&&◌, ◌||◌, if◌then◌else◌, List}
use Rattle.std.specs.Prelude.{Option, Some, None, is_some}
use Rattle.std.specs.List.{list_any}
use Rattle.date_texts.specs.declared.calendar.Calendar.{Calendar}
use Rattle.written_dates.specs.declared.calendars.Form.{Form}
use Rattle.written_dates.specs.declared.calendars.Form.TheVariants as forms
use Rattle.written_dates.specs.declared.items.Item.{Item}
use Rattle.written_dates.specs.declared.meanings.Name.{Name}
use Rattle.written_dates.specs.declared.rules.Order.{Order}
use Rattle.written_dates.specs.declared.written.Choice.{Choice}
use Rattle.written_dates.specs.Calendars.{form}
use Rattle.written_dates.specs.Signs.{has_other, runs_behind_minus, three_runs}
use Rattle.written_dates.specs.Tokens.{tokens}
use Rattle.written_dates.specs.Written.{answer, dated_text, is_found, unless_turned, written}
use Rattle.date_spans.specs.declared.cuts.Cut.{Cut}
use Rattle.date_spans.specs.declared.cuts.Cut.TheVariants.{Dash, WideDash, Slash}
use Rattle.date_spans.specs.declared.sayings.Kind.{Kind}
use Rattle.date_spans.specs.declared.sayings.Kind.TheVariants as kinds
use Rattle.date_spans.specs.declared.sayings.Said.{Said}
use Rattle.date_spans.specs.declared.spans.Marks.{Marks}
use Rattle.date_spans.specs.Brackets.{without_brackets}
use Rattle.date_spans.specs.Cuts.{is_open, sides, unmarked}
use Rattle.date_spans.specs.declared.ends.Numbers.{Numbers}
use Rattle.date_spans.specs.Ends.{AreEnds, date_text, if_held}
use Rattle.date_spans.specs.Extents.{or_else}
use Rattle.date_spans.specs.Sides.{cut_sides, items_in, one_side, two_sides, words_in}
use Rattle.date_spans.specs.Styles.{IsOwnDay}
use Rattle.date_spans.specs.Sayings.{is_about, is_dual_of, kind_of, said_by, said_of_dual, said_of_short, said_of_sides}

-- ---- what a text says
-- what is said of two texts, where each has items
abbrev pub of_two : (List Item → List Item → Option Said) → Option (List Item) → Option (List Item) → Option Said
of_two say (Some a) (Some b) = say a b
of_two say a b = None

abbrev pub of_whole : (List Item → Option Said) → Option (List Item) → Option Said
of_whole say None = None
of_whole say (Some found) = say found

-- what a text says as a whole
unfoldable pub as_whole : Choice → Calendar → List Name → List ℕ → Option Said
as_whole choice calendar names text =
    of_whole (said_by calendar (one_side text) (two_sides text) choice.order) (items_in calendar names text)

-- by its sides at a dash
abbrev pub at_dash_by : Choice → Calendar → List Name → List ℕ → Option (List ℕ × List ℕ) → Option Said
at_dash_by choice calendar names text None = None
at_dash_by choice calendar names text (Some two) =
    of_two (said_of_sides calendar (cut_sides text two.0 two.1) choice.order)
    (items_in calendar names two.0) (items_in calendar names two.1)

unfoldable pub at_dash : Cut → Choice → Calendar → List Name → List ℕ → Option Said
at_dash cut choice calendar names text = at_dash_by choice calendar names text (sides cut text)

-- by those at its only slash
abbrev pub at_slash_by : Choice → Calendar → List Name → Option (List ℕ × List ℕ) → Option Said
at_slash_by choice calendar names None = None
at_slash_by choice calendar names (Some two) =
    of_two (said_of_dual calendar (one_side two.0) choice.order)
    (items_in calendar names two.0) (items_in calendar names two.1)

unfoldable pub at_slash : Choice → Calendar → List Name → List ℕ → Option Said
at_slash choice calendar names text = at_slash_by choice calendar names (sides Slash text)

-- the only slash of a text has a year before it and the year after that behind it
abbrev pub is_dual_items : (List Item → List Item → Bool) → Option (List Item) → Option (List Item) → Bool
is_dual_items test (Some a) (Some b) = test a b
is_dual_items test a b = false

abbrev pub is_dual_sides : Calendar → List Name → Order → Option (List ℕ × List ℕ) → Bool
is_dual_sides calendar names order None = false
is_dual_sides calendar names order (Some two) =
    is_dual_items (is_dual_of calendar (one_side two.0) order)
    (items_in calendar names two.0) (items_in calendar names two.1)

unfoldable pub is_dual : Choice → Calendar → List Name → List ℕ → Bool
is_dual choice calendar names text = is_dual_sides calendar names choice.order (sides Slash text)

-- by those at a sign before the year after, written shorter
abbrev pub at_short_by : Choice → Calendar → List Name → Option (List ℕ × List ℕ) → Option Said
at_short_by choice calendar names None = None
at_short_by choice calendar names (Some two) =
    of_two (said_of_short calendar (one_side two.0) choice.order)
    (items_in calendar names two.0) (items_in calendar names two.1)

unfoldable pub at_short : Cut → Choice → Calendar → List Name → List ℕ → Option Said
at_short cut choice calendar names text = at_short_by choice calendar names (sides cut text)

-- the sign is the only slash, or the only dash, with no blank before it
unfoldable pub in_short : Choice → Calendar → List Name → List ℕ → Option Said
in_short choice calendar names text =
    or_else (at_short Slash choice calendar names text)
    (if is_some (sides WideDash text) then None else at_short Dash choice calendar names text)

-- what a text says: by its dual year, where it has one; else as a whole, by the sides of its only dash, or by those of its
-- only dash behind a blank
abbrev pub said_by_sides : Choice → Calendar → List Name → List ℕ → Option Said
said_by_sides choice calendar names text =
    or_else (as_whole choice calendar names text)
    (or_else (at_dash Dash choice calendar names text) (at_dash WideDash choice calendar names text))

-- where it says nothing so, by a dual year that is written shorter
unfoldable pub said_or_short : Choice → Calendar → List Name → List ℕ → Option Said
said_or_short choice calendar names text =
    or_else (said_by_sides choice calendar names text) (in_short choice calendar names text)

unfoldable pub said_in : Choice → Calendar → List Name → List ℕ → Option Said
said_in choice calendar names text =
    if has_other (tokens 0 text) || is_open text then None
    else if is_dual choice calendar names text then if_held choice calendar (at_slash choice calendar names text)
    else if_held choice calendar (said_or_short choice calendar names text)

-- ---- first and last day
-- the text is a date as registers have it, or one that is read
abbrev pub stands : Choice → List ℕ → Bool
stands choice text =
    is_some (runs_behind_minus (tokens 0 text)) || is_some (unless_turned choice.order (three_runs (tokens 0 text)))

unfoldable pub is_known : Choice → Calendar → List Name → List ℕ → Bool
is_known choice calendar names text = stands choice text || is_found (answer choice calendar names text)

-- and has no dual year
abbrev pub is_date : Choice → Calendar → List Name → List ℕ → Bool
is_date choice calendar names text =
    not (is_dual choice calendar names text) && is_known choice calendar names text

-- a word for `about` stands among the items
abbrev pub has_about : Option (List Item) → Bool
has_about None = false
has_about (Some found) = list_any is_about found

abbrev pub marks : Kind → Bool → Bool → Marks
marks kind about uncertain = record { kind = kind; about = about; uncertain = uncertain; inferred = false }

abbrev pub marks_of : Said → Bool → Bool → Bool → Marks
marks_of said true about uncertain = marks kinds.Unread false false
marks_of said false about uncertain = marks (kind_of said) about uncertain

-- a date is first and last; where there is none, the text stays
abbrev pub IsDayOrText : Option Numbers → List ℕ → List ℕ × Bool × Bool → List ℕ → List ℕ → Marks → Type 0
IsDayOrText None text kept first last found =
    (first ≡ text) × (last ≡ text) × (found ≡ marks kinds.Unread false false)
IsDayOrText (Some day) text kept first last found =
    (first ≡ date_text (Some day)) × (last ≡ date_text (Some day)) × (found ≡ marks kinds.One kept.2 kept.1)

abbrev pub IsInStyles : Choice → Calendar → List Name → List ℕ → List ℕ × Bool × Bool → List ℕ → List ℕ → Marks → Type 0
IsInStyles choice calendar names text kept first last found =
    (day : Option Numbers) × IsOwnDay choice calendar names kept.0 day × IsDayOrText day text kept first last found

-- what is said has these ends; where nothing is, a day in both styles is read; where the dates are turned, the text stays
abbrev pub AreEndsOf : Choice → Calendar → List Name → List ℕ → List ℕ × Bool × Bool → Option Said
    → List ℕ → List ℕ → Marks → Type 0
AreEndsOf choice calendar names text kept None first last found =
    IsInStyles choice calendar names text kept first last found
AreEndsOf choice calendar names text kept (Some said) first last found =
    (turned : Bool) × AreEnds choice calendar text said first last turned
    × (found ≡ marks_of said turned (kept.2 || has_about (words_in calendar names kept.0)) kept.1)

-- a date is its own first and last day
abbrev pub IsSpanOfText : Choice → Calendar → List Name → List ℕ → List ℕ × Bool × Bool
    → List ℕ → List ℕ → Marks → Bool → Type 0
IsSpanOfText choice calendar names text kept first last found true =
    (first ≡ written choice (Some calendar) names kept.0) × (last ≡ written choice (Some calendar) names kept.0)
    × (found ≡ marks kinds.One kept.2 kept.1)
IsSpanOfText choice calendar names text kept first last found false =
    AreEndsOf choice calendar names text kept (said_in choice calendar names kept.0) first last found

-- a text without blanks and a sign at its ends, and whether this says `uncertain` and `about`; and where it is a date
-- before a time of day, without the time
abbrev pub kept_of : Choice → Calendar → List Name → List ℕ → List ℕ × Bool × Bool
kept_of choice calendar names text =
    (dated_text choice calendar names (unmarked text).0, (unmarked text).1, (unmarked text).2)

-- the span of a text in which no brackets count
abbrev pub IsPlainSpan : Choice → Calendar → List Name → List ℕ → List ℕ → List ℕ → Marks → Type 0
IsPlainSpan choice calendar names text first last found =
    IsSpanOfText choice calendar names text (kept_of choice calendar names text) first last found
    (is_date choice calendar names (kept_of choice calendar names text).0)

-- ---- brackets
abbrev pub is_read : Kind → Bool
is_read kinds.Unread = false
is_read kind = true

abbrev pub inferred : Marks → Marks
inferred found = record { kind = found.kind; about = found.about; uncertain = found.uncertain; inferred = true }

-- a text has the span of what is left without its brackets, and is inferred; where this says nothing, the text stays
pub data IsInferred (choice : Choice) (calendar : Calendar) (names : List Name) (text bare first last : List ℕ)
    (found : Marks) : Type 0 where
  said : (plain : Marks) → is_read plain.kind ≡ true → IsPlainSpan choice calendar names bare first last plain
      → found ≡ inferred plain → IsInferred choice calendar names text bare first last found
  unsaid : (a b : List ℕ) (plain : Marks) → is_read plain.kind ≡ false → IsPlainSpan choice calendar names bare a b plain
      → first ≡ text → last ≡ text → found ≡ marks kinds.Unread false false
      → IsInferred choice calendar names text bare first last found

abbrev pub IsCivilSpan : Choice → Calendar → List Name → List ℕ → Option (List ℕ) → List ℕ → List ℕ → Marks → Type 0
IsCivilSpan choice calendar names text None first last found = IsPlainSpan choice calendar names text first last found
IsCivilSpan choice calendar names text (Some bare) first last found =
    IsInferred choice calendar names text bare first last found

-- where the calendar has no years, months and days, what is written is both
abbrev pub IsSpanByForm : Form → Choice → Calendar → List Name → List ℕ → List ℕ → List ℕ → Marks → Type 0
IsSpanByForm forms.Civil choice calendar names text first last found =
    IsCivilSpan choice calendar names text (without_brackets text) first last found
IsSpanByForm form choice calendar names text first last found =
    (first ≡ written choice (Some calendar) names text) × (last ≡ written choice (Some calendar) names text)
    × (found ≡ marks kinds.One false false)

-- these are the first and the last day that a text can mean, and what else it says of them
abbrev pub IsSpan : Choice → Option Calendar → List Name → List ℕ → List ℕ → List ℕ → Marks → Type 0
IsSpan choice None names text first last found =
    (first ≡ text) × (last ≡ text) × (found ≡ marks kinds.Unread false false)
IsSpan choice (Some calendar) names text first last found =
    IsSpanByForm (form calendar) choice calendar names text first last found
