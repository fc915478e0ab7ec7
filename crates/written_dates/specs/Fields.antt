-- The field that names a record's calendar.
use Rattle.std.specs.Prelude.{ℕ, Bool, true, false, if◌then◌else◌, List, [], ◌∷◌, ◌++◌, map}
use Rattle.std.specs.Prelude.{Option, Some, None}
use Rattle.written_dates.specs.declared.tokens.Kind.{Kind}
use Rattle.written_dates.specs.declared.tokens.Kind.TheVariants.{Blank}
use Rattle.date_texts.specs.declared.calendar.Calendar.{Calendar}
use Rattle.date_texts.specs.declared.calendar.Calendar.TheVariants.{Gregorian}
use Rattle.written_dates.specs.declared.fields.CalendarMeaning.{CalendarMeaning}
use Rattle.written_dates.specs.declared.fields.CalendarMeaning.TheVariants.{One, Both, Changed}
use Rattle.written_dates.specs.declared.fields.CalendarName.{CalendarName}
use Rattle.written_dates.specs.declared.fields.CalendarNames.{CalendarNames}
use Rattle.date_texts.specs.Calendars.{calendar_name}
use Rattle.written_dates.specs.Tokens.{Piece, tokens}
use Rattle.written_dates.specs.Signs.{bare}
use Rattle.written_dates.specs.Words.{same_word}

abbrev pub is_blank : Kind → Bool
is_blank Blank = true
is_blank _ = false

abbrev pub kept_end : Piece → List Piece → List Piece
kept_end p [] = if is_blank p.kind then [] else p ∷ []
kept_end p (q ∷ rest) = p ∷ q ∷ rest

-- the tokens up to the last one that is no blank
abbrev pub bare_end : List Piece → List Piece
bare_end [] = []
bare_end (p ∷ rest) = kept_end p (bare_end rest)

-- the bytes of tokens
abbrev pub spelling : List Piece → List ℕ
spelling [] = []
spelling (p ∷ rest) = p.text ++ spelling rest

-- a text without the blanks at its ends
unfoldable pub without_blanks : List ℕ → List ℕ
without_blanks text = spelling (bare_end (bare (tokens 0 text)))

-- a name without the blanks at its ends, and what it means
abbrev pub bare_name : CalendarName → List ℕ × CalendarMeaning
bare_name name = (without_blanks name.text.now, name.meaning)

abbrev pub entry : CalendarName → List ℕ × CalendarMeaning
entry name = (name.text.now, name.meaning)

-- the names, without blanks at their ends
abbrev pub entries : CalendarNames → List (List ℕ × CalendarMeaning)
entries names = map entry names.bare.names.items

-- what the first of the names means which are the same as a text
abbrev pub meant_by : List (List ℕ × CalendarMeaning) → List ℕ → Option CalendarMeaning
meant_by [] text = None
meant_by (e ∷ rest) text = if same_word e.0 text then Some e.1 else meant_by rest text

-- what a field means
abbrev pub calendar_meant : List (List ℕ × CalendarMeaning) → List ℕ → Option CalendarMeaning
calendar_meant names field = meant_by names (without_blanks field)

-- the calendar of dates in it; of those in both styles, and at a change of calendars, the Gregorian one
abbrev pub calendar_of : CalendarMeaning → Calendar
calendar_of (One calendar) = calendar
calendar_of Both = Gregorian
calendar_of (Changed from) = Gregorian

abbrev pub or_field : List ℕ → Option CalendarMeaning → List ℕ
or_field field None = field
or_field field (Some meaning) = calendar_name (calendar_of meaning)

-- what a register gets for a field: the calendar that it means by the names, or else the field as it is
abbrev pub written_calendar : List (List ℕ × CalendarMeaning) → List ℕ → List ℕ
written_calendar names field = or_field field (calendar_meant names field)
