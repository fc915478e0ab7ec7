-- The cell of a day in the column of a target: a definition of this project, over the calendars' own rules.
use Rattle.std.specs.Prelude.{◌≡◌, ◌==◌, ◌||◌, Bool, ℕ, ℤ, List, [], ◌∷◌, ◌++◌}
use Rattle.std.specs.Char.{is_ascii_alphanumeric}
use Rattle.std.specs.Fmt.{decimal}
use Rattle.day_numbers.specs.Numbered.{name_of_number}
use Rattle.maya_calendars.specs.HaabNames.{haab_of, month_names}
use Rattle.maya_calendars.specs.TzolkinNames.{tzolkin_of, name_texts}
use Rattle.date_texts.specs.Dates.{calendar_of_date, IsDateOfCalendar, day_number_of_date}
use Rattle.date_texts.specs.DateText.{canonical_text}
use Rattle.date_texts.specs.declared.calendar.Calendar.{Calendar}
use Rattle.date_texts.specs.declared.target.Target.{Target}
use Rattle.date_texts.specs.declared.target.Target.TheVariants.{Date as DateTarget, Haab, Tzolkin}
use Rattle.date_texts.specs.declared.date.Date.{Date}

-- the text is the canonical text of a date that the calendar has and whose day is n, or it is empty where the calendar
-- has none: those that have a first day have none before it, as the calls from a day to its date say
pub data IsDateCell (calendar : Calendar) (n : ℤ) (text : List ℕ) : Type 0 where
  on_date : (date : Date) → calendar_of_date date ≡ calendar → IsDateOfCalendar date → day_number_of_date date ≡ n
      → text ≡ canonical_text date → IsDateCell calendar n text
  no_date : ((date : Date) → calendar_of_date date ≡ calendar → IsDateOfCalendar date → ¬ (day_number_of_date date ≡ n))
      → text ≡ [] → IsDateCell calendar n text

-- a number without leading zeros, one space (32) and a name
abbrev pub numbered_name : ℕ → List ℕ → List ℕ
numbered_name number name = decimal number ++ 32 ∷ name

-- the text is the cell of day n in the target's column: a haab has its day and the name of its month, 7 Zac, and a
-- tzolkin its number and its name, 11 Muluc
abbrev pub IsCell : Target → ℤ → List ℕ → Type 0
IsCell (DateTarget calendar) n text = IsDateCell calendar n text
IsCell Haab n text = text ≡ numbered_name (haab_of n).0 (name_of_number month_names (haab_of n).1)
IsCell Tzolkin n text = text ≡ numbered_name (tzolkin_of n).0 (name_of_number name_texts (tzolkin_of n).1)

-- a byte that cells are made of: a digit or a letter of ASCII, a space (32), a dash (45) or a dot (46)
abbrev pub is_plain : ℕ → Bool
is_plain c = is_ascii_alphanumeric c || ((c == 32) || ((c == 45) || (c == 46)))
