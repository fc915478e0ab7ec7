-- The words of a command line that say the calendar of dates.
use Rattle.std.specs.Prelude.{◌≡◌, List, Option, None, Some, map, option_to_list}
use Rattle.clap.specs.Words.{Text}
use Rattle.sheets.specs.NameLists.{calendar_names_in}
use Rattle.sheets.specs.NameMeanings.{SaysCalendar}
use Rattle.sheets.specs.declared.name_lists.NameLine.{NameLine}
use Rattle.sheet_arguments.specs.Requests.{CalendarsWanted, all_have, in_columns}
use Rattle.written_dates.specs.Fields.{calendar_meant, without_blanks}
use Rattle.written_dates.specs.declared.fields.CalendarMeaning.{CalendarMeaning}

-- what a word means by the names of these lines, as a field of calendars does
abbrev pub named_in : List NameLine → Text → Option CalendarMeaning
named_in lines = calendar_meant (map (λ e. (without_blanks e.0, e.1)) (calendar_names_in lines))

-- what a word says of the calendar of dates: what it means by names, if it does; else what it says itself
abbrev pub IsMeant : Option CalendarMeaning → Text → CalendarMeaning → Type 0
IsMeant (Some named) word meaning = meaning ≡ named
IsMeant None word meaning = SaysCalendar word meaning

abbrev pub SaysBy : List NameLine → Text → CalendarMeaning → Type 0
SaysBy lines word = IsMeant (named_in lines word) word

-- a word says nothing of it
abbrev pub SaysNothing : List NameLine → Text → Type 0
SaysNothing lines word = (meaning : CalendarMeaning) → ¬ SaysBy lines word meaning

-- the words that are to say calendars
abbrev pub calendar_words : CalendarsWanted → List Text
calendar_words (in_columns words otherwise) = option_to_list otherwise
calendar_words (all_have words) = words
