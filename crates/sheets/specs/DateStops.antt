-- What stops a date of a sheet, so that it is not read.
use Rattle.std.specs.Prelude.{◌≡◌, ◌≢◌, ◌⊎◌, ◌==◌, ◌&&◌, ◌||◌, ℕ, Bool, false, true, List, [], ◌∷◌, IsUtf8, Option, None, Some}
use Rattle.std.specs.Prelude.{get_or}
use Rattle.std.specs.Option.{is_none}
use mathlib.Core.Logic.{inl, inr}
use Rattle.date_texts.specs.DateText.{IsDateText}
use Rattle.date_texts.specs.declared.calendar.Calendar.{Calendar}
use Rattle.date_texts.specs.declared.date.Date.{Date}
use Rattle.register_records.specs.Entries.{Fields}
use Rattle.written_dates.specs.Fields.{without_blanks}
use Rattle.written_dates.specs.Rules.{is_year_first}
use Rattle.written_dates.specs.Stops.{stop}
use Rattle.written_dates.specs.Unknown.{unknown_word}
use Rattle.written_dates.specs.declared.meanings.Name.{Name}
use Rattle.written_dates.specs.declared.rules.Order.{Order}
use Rattle.written_dates.specs.declared.rules.Order.TheVariants.{DayFirst, MonthFirst}
use Rattle.written_dates.specs.declared.stops.Stop.{Stop}
use Rattle.written_dates.specs.declared.stops.Stop.TheVariants as stops
use Rattle.written_dates.specs.declared.written.Choice.{Choice}
use Rattle.date_spans.specs.declared.spans.Marks.{Marks}
use Rattle.sheets.specs.CalendarChanges.{EndText}
use Rattle.sheets.specs.Choices.{called_for, date_text}
use Rattle.sheets.specs.DateEnds.{AreEnds}
use Rattle.sheets.specs.declared.choices.CalendarField.{CalendarField}
use Rattle.sheets.specs.declared.choices.CalendarField.TheVariants as calendar
use Rattle.sheets.specs.declared.choices.DateColumn.{DateColumn}
use Rattle.sheets.specs.declared.choices.SheetChoice.{SheetChoice}
use Rattle.sheets.specs.declared.reasons.Reason.{Reason}
use Rattle.sheets.specs.declared.reasons.Reason.TheVariants as reasons
use Rattle.sheets.specs.declared.reasons.ReasonCounts.{ReasonCounts}

-- a name that stopped a date: a word, and the calendar in which it is not known; or that of a calendar, and none
abbrev pub NameStop : Type 0
NameStop = List ℕ × Option Calendar

-- what stops a date: a name that is not known, or another reason
abbrev pub DateStop : Type 0
DateStop = NameStop ⊎ Reason

-- the reason for which dates in words are not read
abbrev pub reason_by : Option Stop → Reason
reason_by (Some stops.Character) = reasons.Character
reason_by (Some stops.Minus) = reasons.Minus
reason_by (Some stops.OtherWeekday) = reasons.OtherWeekday
reason_by (Some stops.NoDay) = reasons.NoDay
reason_by (Some stops.NoYear) = reasons.NoYear
reason_by (Some stops.NoSuchYear) = reasons.NoSuchYear
reason_by other = reasons.NoDate

-- dates are read so, but with three numbers in this order
abbrev pub in_order : Order → Choice → Choice
in_order order reading =
    record {
      order = order;
      short_years = reading.short_years;
      short_hebrew_years = reading.short_hebrew_years;
      short_other_years = reading.short_other_years;
      charters = reading.charters;
    }

abbrev pub is_read : Choice → Calendar → List Name → List ℕ → Bool
is_read reading calendar names text = is_none (stop reading calendar names text)

-- the year is looked for first, and a text would be read with the day or the month first
abbrev pub has_year_last : Choice → Calendar → List Name → List ℕ → Bool
has_year_last reading calendar names text =
    is_year_first reading.order && (is_read (in_order DayFirst reading) calendar names text
    || is_read (in_order MonthFirst reading) calendar names text)

-- no date otherwise is one with the year last
abbrev pub or_last : Bool → Reason → Reason
or_last true reasons.NoDate = reasons.YearLast
or_last last reason = reason

-- the reason for which a text is not read
abbrev pub text_reason : Choice → Calendar → List Name → List ℕ → Reason
text_reason reading calendar names text =
    or_last (has_year_last reading calendar names text) (reason_by (stop reading calendar names text))

-- a word that is not known, or else the reason
abbrev pub word_or_reason : Calendar → Option (List ℕ) → Reason → DateStop
word_or_reason calendar (Some word) reason = inl (word, Some calendar)
word_or_reason calendar None reason = inr reason

-- what stops a text that is not read
abbrev pub text_stop : Choice → Calendar → List Name → List ℕ → DateStop
text_stop reading calendar names text =
    word_or_reason calendar (unknown_word calendar names text) (text_reason reading calendar names text)

-- this is no text, or no date of the calendar
abbrev pub IsNoDate : Calendar → List ℕ → Type 0
IsNoDate calendar text = IsUtf8 text → (date : Date) → ¬ (IsDateText calendar text date)

-- a field of this calendar has more than blanks, stays as it is, and is no date text
pub record StaysWritten (calendar : Calendar) (field date : List ℕ) : Type 0 where
  pub some : without_blanks field ≢ []
  pub stays : date ≡ field
  pub no_date : IsNoDate calendar field

-- what stops a field of a calendar, for which this date is written: nothing where the field is a date, or was read
pub record IsStopIn (reading : Choice) (calendar : Calendar) (names : List Name) (field date : List ℕ)
    (found : Option DateStop) : Type 0 where
  pub stays : StaysWritten calendar field date → found ≡ Some (text_stop reading calendar names field)
  pub other : ¬ (StaysWritten calendar field date) → found ≡ None

-- the name that stands for a calendar, or that none does
abbrev pub calendar_stop : List ℕ → DateStop
calendar_stop [] = inr reasons.NoCalendar
calendar_stop (byte ∷ name) = inl (byte ∷ name, None)

abbrev pub calendar_field : CalendarField → Fields → List ℕ
calendar_field (calendar.All meaning) fields = []
calendar_field (calendar.Column column) fields = get_or fields column.place []

abbrev pub unless_empty : List ℕ → DateStop → Option DateStop
unless_empty [] stop = None
unless_empty (byte ∷ text) stop = Some stop

-- this stops the date of a record in a column, whose calendar is the one called, and for which this is written; an empty
-- field stops nothing
abbrev pub IsStopBy : SheetChoice → DateColumn → Fields → List ℕ → Option Calendar → Option DateStop → Type 0
IsStopBy choice column fields date None found =
    found ≡ unless_empty (without_blanks (date_text choice column fields))
    (calendar_stop (without_blanks (calendar_field column.calendar fields)))
IsStopBy choice column fields date (Some calendar) found =
    IsStopIn choice.reading calendar choice.names.now.listed.now (date_text choice column fields) date found

-- a date of a sheet: its column and its record
abbrev pub SheetDate : Type 0
SheetDate = DateColumn × Fields

-- this stops it: the text of its first day is what is written for it
pub record IsStopOf (choice : SheetChoice) (date : SheetDate) (found : Option DateStop) : Type 0 where
  pub first : EndText
  pub last : EndText
  pub marks : Marks
  pub ends : AreEnds choice date.0 date.1 first last marks
  pub stop : IsStopBy choice date.0 date.1 first.text (called_for choice date.0 date.1) found

-- the name that stopped a date
abbrev pub name_in : Option DateStop → Option NameStop
name_in (Some (inl name)) = Some name
name_in stop = None

-- the number of a reason
abbrev pub reason_number : Reason → ℕ
reason_number reasons.NoCalendar = 1
reason_number reasons.Character = 2
reason_number reasons.Minus = 3
reason_number reasons.OtherWeekday = 4
reason_number reasons.NoDay = 5
reason_number reasons.NoYear = 6
reason_number reasons.NoSuchYear = 7
reason_number reasons.NoDate = 8
reason_number reasons.YearLast = 9

-- a date was stopped for this reason
abbrev pub is_for : Reason → Option DateStop → Bool
is_for reason (Some (inr other)) = reason_number other == reason_number reason
is_for reason stop = false

-- the count of a reason
abbrev pub count_of : ReasonCounts → Reason → ℕ
count_of counts reasons.NoCalendar = counts.no_calendar
count_of counts reasons.Character = counts.character
count_of counts reasons.Minus = counts.minus
count_of counts reasons.OtherWeekday = counts.other_weekday
count_of counts reasons.NoDay = counts.no_day
count_of counts reasons.NoYear = counts.no_year
count_of counts reasons.NoSuchYear = counts.no_such_year
count_of counts reasons.NoDate = counts.no_date
count_of counts reasons.YearLast = counts.year_last
