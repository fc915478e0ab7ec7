-- A calendar that a date names at the end of its text, as `12. Mai 1706 n. St.`.
use Rattle.std.specs.Prelude.{◌-◌, ◌==◌, ◌&&◌, ℕ, Bool, true, false, not, nat_le, if◌then◌else◌, List, [], ◌∷◌}
use Rattle.std.specs.Prelude.{Option, None, Some, drop, get_or, length, take}
use Rattle.std.specs.Char.{is_ascii_digit}
use Rattle.std.specs.List.{list_any}
use Rattle.date_texts.specs.declared.calendar.Calendar.{Calendar}
use Rattle.date_texts.specs.declared.calendar.Calendar.TheVariants.{Gregorian, Julian}
use Rattle.date_texts.specs.Calendars.{calendar_name}
use Rattle.written_dates.specs.Fields.{calendar_meant, entries, is_blank, without_blanks}
use Rattle.written_dates.specs.Sums.{found_items}
use Rattle.written_dates.specs.Tokens.{Piece, tokens}
use Rattle.written_dates.specs.declared.fields.CalendarMeaning.{CalendarMeaning}
use Rattle.written_dates.specs.declared.fields.CalendarMeaning.TheVariants.{One, Both, Changed}
use Rattle.written_dates.specs.declared.fields.CalendarNames.{CalendarNames}
use Rattle.written_dates.specs.declared.items.Item.{Item}
use Rattle.written_dates.specs.declared.meanings.Name.{Name}

-- the calendars of the two styles
abbrev pub is_style : Calendar → Bool
is_style Gregorian = true
is_style Julian = true
is_style calendar = false

abbrev pub style_meant : Option CalendarMeaning → Option Calendar
style_meant (Some (One calendar)) = if is_style calendar then Some calendar else None
style_meant other = None

-- one to sixteen things are said
abbrev pub says_something : Option (List Item) → Bool
says_something (Some (item ∷ items)) = nat_le (length (item ∷ items)) 16
says_something items = false

-- a name that says something in dates of its calendar, as `jul` says a month, does not count
abbrev pub unless_said : List Name → List ℕ → Option Calendar → Option Calendar
unless_said names name None = None
unless_said names name (Some calendar) =
    if says_something (found_items calendar names name) then None else Some calendar

abbrev pub begins_with_blank : List Piece → Bool
begins_with_blank [] = false
begins_with_blank (p ∷ rest) = is_blank p.kind

abbrev pub is_behind_blank : List ℕ → Bool
is_behind_blank end = begins_with_blank (tokens 0 end) && not (list_any is_ascii_digit end)

-- the style that an end of a text names: it is a blank, and behind this a name without digits
unfoldable pub style_named : CalendarNames → List Name → List ℕ → Option Calendar
style_named calendars names end =
    if is_behind_blank end then unless_said names end (style_meant (calendar_meant (entries calendars) end)) else None

-- how many bytes an end has, and the style that it names
abbrev pub or_next : ℕ → Option Calendar → Option (ℕ × Calendar) → Option (ℕ × Calendar)
or_next count (Some style) next = Some (count, style)
or_next count None next = next

-- the first end that names one
unfoldable pub first_style : CalendarNames → List Name → List ℕ → Option (ℕ × Calendar)
first_style calendars names [] = None
first_style calendars names (byte ∷ text) =
    or_next (length (byte ∷ text)) (style_named calendars names (byte ∷ text)) (first_style calendars names text)

-- the last byte of a text
abbrev pub last_byte : List ℕ → ℕ
last_byte text = get_or text (length text - 1) 0

-- a text without a comma (44) at its end, and without blanks there and before it
abbrev pub without_comma : List ℕ → List ℕ
without_comma text = if last_byte text == 44 then take (length text - 1) text else text

abbrev pub before_name : List ℕ → List ℕ
before_name text = without_blanks (without_comma (without_blanks text))

-- a date, and the calendar that its text names
abbrev pub OwnDate : Type 0
OwnDate = List ℕ × Calendar

abbrev pub unless_empty : List ℕ → Calendar → Option OwnDate
unless_empty [] style = None
unless_empty (byte ∷ date) style = Some (byte ∷ date, style)

abbrev pub date_before : List ℕ → Option (ℕ × Calendar) → Option OwnDate
date_before text None = None
date_before text (Some end) = unless_empty (before_name (take (length text - end.0) text)) end.1

-- what a text says whose end names its style: among its last 64 bytes; one that ends with a digit names none
unfoldable pub own_date : CalendarNames → List Name → List ℕ → Option OwnDate
own_date calendars names text =
    if is_ascii_digit (last_byte text) then None
    else date_before text (first_style calendars names (drop (length text - 64) text))

-- this counts where the record's own calendar is one of them, or is not known, or they change
abbrev pub has_styles : Option CalendarMeaning → Bool
has_styles None = true
has_styles (Some (One calendar)) = is_style calendar
has_styles (Some Both) = false
has_styles (Some (Changed from)) = true

-- and is then the date, its calendar, and what is meant
abbrev pub or_date : List ℕ → Option OwnDate → List ℕ
or_date field None = field
or_date field (Some own) = own.0

abbrev pub or_calendar : List ℕ → Option OwnDate → List ℕ
or_calendar calendar None = calendar
or_calendar calendar (Some own) = calendar_name own.1

abbrev pub or_meaning : Option CalendarMeaning → Option OwnDate → Option CalendarMeaning
or_meaning meaning None = meaning
or_meaning meaning (Some own) = Some (One own.1)
