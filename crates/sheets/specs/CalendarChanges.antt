-- A change of calendars: the Julian calendar before a day, and the Gregorian one from it on.
use Rattle.std.specs.Prelude.{◌≡◌, ◌<ℤ◌, ℕ, ℤ, IsUtf8, List, [], codes, if◌then◌else◌, length, nat_le}
use Rattle.day_numbers.specs.Days.{IsDayNumber}
use Rattle.date_texts.specs.Calendars.{calendar_name}
use Rattle.date_texts.specs.Dates.{IsDateOfCalendar, day_number_of_date}
use Rattle.date_texts.specs.DateText.{IsDateText}
use Rattle.date_texts.specs.declared.calendar.Calendar.{Calendar}
use Rattle.date_texts.specs.declared.calendar.Calendar.TheVariants.{Gregorian, Julian}
use Rattle.date_texts.specs.declared.date.Date.{Date}
use Rattle.sheets.specs.declared.calendar_changes.EndCalendar.{EndCalendar}
use Rattle.sheets.specs.declared.calendar_changes.EndCalendar.TheVariants.{OfRecord, OldStyle, Neither}

-- an end of a date: what calendar it is in, and the text of its day
pub record EndText : Type 0 where
  pub calendar : EndCalendar
  pub text : List ℕ

-- what a register names as its calendar, by what it names for the record
abbrev pub end_calendar : EndCalendar → List ℕ → List ℕ
end_calendar OfRecord calendar = calendar
end_calendar OldStyle calendar = calendar_name Julian
end_calendar Neither calendar = codes "julian/gregorian"

-- the calendar and the date of the entry whose row it has: those of its register; a day that was left out at a change has
-- those of a date that no calendar has, since the Julian one has no year 0; a text that is too long for a date has none
abbrev pub row_calendar : EndCalendar → List ℕ → List ℕ
row_calendar OfRecord calendar = calendar
row_calendar end calendar = calendar_name Julian

abbrev pub if_short : List ℕ → List ℕ
if_short text = if nat_le (length text) 32 then text else []

abbrev pub row_text : EndCalendar → List ℕ → List ℕ
row_text Neither text = codes "0-1-1"
row_text end text = if_short text

-- the text is a date of the calendar, and this is the number of its day
pub record SaysDay (calendar : Calendar) (text : List ℕ) (n : ℤ) : Type 0 where
  pub is_text : IsUtf8 text
  pub date : Date
  pub says : IsDateText calendar text date
  pub is_date : IsDateOfCalendar date
  pub is_its : n ≡ day_number_of_date date
  pub is_day : IsDayNumber n

-- that day lies before the one with this number
abbrev pub IsBefore : Calendar → ℤ → List ℕ → Type 0
IsBefore calendar from text = (n : ℤ) × SaysDay calendar text n × (n <ℤ from)

-- of what is written for an end in the Julian calendar and in the Gregorian one: the Julian date before the change, and
-- else the Gregorian text; a Gregorian date before the change is in neither calendar
pub data IsAtChange (from : ℤ) (julian gregorian : List ℕ) : EndText → Type 0 where
  before : IsBefore Julian from julian
      → IsAtChange from julian gregorian (record { calendar = OldStyle; text = julian })
  left_out : ¬ (IsBefore Julian from julian) → IsBefore Gregorian from gregorian
      → IsAtChange from julian gregorian (record { calendar = Neither; text = gregorian })
  behind : ¬ (IsBefore Julian from julian) → ¬ (IsBefore Gregorian from gregorian)
      → IsAtChange from julian gregorian (record { calendar = OfRecord; text = gregorian })
