-- Names: the calendars in which each holds, and which texts can be one.
use Rattle.std.specs.Prelude.{ℕ, Bool, true, false, not, ◌&&◌, List, [], ◌∷◌, get_or, filter}
use Rattle.date_texts.specs.declared.calendar.Calendar.{Calendar}
use Rattle.written_dates.specs.declared.meanings.Name.{Name}
use Rattle.written_dates.specs.Calendars.{place}
use Rattle.written_dates.specs.Tokens.{Piece, tokens}
use Rattle.written_dates.specs.Parts.{parts}
use Rattle.written_dates.specs.Signs.{has_other}

-- the name holds in the calendar
abbrev pub holds : Calendar → Name → Bool
holds calendar name = get_or name.calendars.held (place calendar) false

-- the names that hold in a calendar
abbrev pub names_in : Calendar → List Name → List Name
names_in calendar names = filter (holds calendar) names

abbrev pub is_empty : List Piece → Bool
is_empty [] = true
is_empty (p ∷ rest) = false

-- a text can be a name in dates: it has a number or a word, and no character that no date has
abbrev pub is_name : List ℕ → Bool
is_name text = not (has_other (tokens 0 text)) && not (is_empty (parts text))
