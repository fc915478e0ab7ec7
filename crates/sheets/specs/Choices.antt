-- What is chosen of a sheet, and the register of a column of dates.
use Rattle.std.specs.Prelude.{◌+◌, ◌*◌, ◌≡◌, ◌<◌, ◌||◌, ℕ, Bool, List, [], ◌∷◌, true, false, length}
use Rattle.std.specs.Prelude.{Option, None, Some, get_or, nat_lt, count_by, if◌then◌else◌, option_map}
use Rattle.std.specs.Fmt.{decimal}
use Rattle.std.specs.List.{find, flat_map}
use Rattle.std.specs.Str.{bytes_eq, is_utf8, str_to_ascii_lowercase}
use Rattle.date_texts.specs.Calendars.{all_calendars, calendar_name}
use Rattle.date_texts.specs.Trimmed.{trimmed}
use Rattle.date_texts.specs.declared.calendar.Calendar.{Calendar}
use Rattle.date_texts.specs.declared.target.Target.{Target}
use Rattle.date_texts.specs.declared.target.TheConstants.{MAX_TARGETS}
use Rattle.register_records.specs.Entries.{Fields, Numbered, body_of}
use Rattle.register_records.specs.SetupRules.{NamesTwice}
use Rattle.register_records.specs.declared.setups.Form.TheVariants.{Plain}
use Rattle.written_dates.specs.Fields.{calendar_meant, calendar_of, entries, or_field, without_blanks}
use Rattle.written_dates.specs.declared.fields.CalendarMeaning.{CalendarMeaning}
use Rattle.written_dates.specs.declared.fields.CalendarMeaning.TheVariants.{One}
use Rattle.written_dates.specs.declared.fields.CalendarNames.{CalendarNames}
use Rattle.sheets.specs.CalendarChanges.{EndText, end_calendar, row_calendar, row_text}
use Rattle.sheets.specs.OwnCalendars.{OwnDate, has_styles, or_calendar, or_date, or_meaning, own_date}
use Rattle.sheets.specs.declared.choices.AskedColumn.{AskedColumn}
use Rattle.sheets.specs.declared.choices.AskedColumn.TheVariants.{Cells, Church, DayNumber, Weekday}
use Rattle.sheets.specs.declared.choices.CalendarField.{CalendarField}
use Rattle.sheets.specs.declared.choices.CalendarField.TheVariants as calendar
use Rattle.sheets.specs.declared.choices.DateColumn.{DateColumn}
use Rattle.sheets.specs.declared.choices.IdField.{IdField}
use Rattle.sheets.specs.declared.choices.IdField.TheVariants as id
use Rattle.sheets.specs.declared.choices.SheetChoice.{SheetChoice}
use Rattle.sheets.specs.declared.choices.Spans.{Spans}
use Rattle.sheets.specs.declared.choices.Spans.TheVariants as spans

-- the most columns of dates, and the most columns that may be asked for each of them
abbrev pub date_limit : ℕ
date_limit = 8

abbrev pub column_limit : ℕ
column_limit = MAX_TARGETS + 3

-- the targets among the columns asked, in order
abbrev pub target_in : AskedColumn → List Target
target_in (Cells target) = target ∷ []
target_in column = []

abbrev pub asked_targets : List AskedColumn → List Target
asked_targets columns = flat_map target_in columns

abbrev pub is_day_number : AskedColumn → Bool
is_day_number DayNumber = true
is_day_number column = false

abbrev pub is_weekday : AskedColumn → Bool
is_weekday Weekday = true
is_weekday column = false

abbrev pub is_church : AskedColumn → Bool
is_church Church = true
is_church column = false

-- the day, the weekday or the name of the day is asked twice
abbrev pub asks_twice : List AskedColumn → Bool
asks_twice columns =
    nat_lt 1 (count_by is_day_number columns) || nat_lt 1 (count_by is_weekday columns)
    || nat_lt 1 (count_by is_church columns)

-- how many columns come behind a sheet for a column of dates: those asked and the refusal; with spans, those asked for
-- the first and for the last day, the text of EDTF where it is asked, the mark and the refusal
abbrev pub added_each : Spans → ℕ → ℕ
added_each spans.Unread asked = asked + 1
added_each spans.Ends asked = asked + asked + 2
added_each spans.EndsAndEdtf asked = asked + asked + 3

abbrev pub added : SheetChoice → ℕ
added choice = length choice.dates.now * added_each choice.spans (length choice.columns.now)

-- the id of a record with this number: a field, or the number
abbrev pub id_text : IdField → ℕ → Fields → List ℕ
id_text id.Number number fields = decimal number
id_text (id.Column place) number fields = get_or fields place []

-- what is meant where nothing but blanks stands in the field of a calendar
abbrev pub if_empty : Option CalendarMeaning → List ℕ → Option CalendarMeaning
if_empty otherwise [] = otherwise
if_empty otherwise (byte ∷ text) = None

abbrev pub or_meant : Option CalendarMeaning → Option CalendarMeaning → Option CalendarMeaning
or_meant None other = other
or_meant (Some meaning) other = Some meaning

-- what a field of a calendar means: by the names, or where it is empty
abbrev pub meant_in : CalendarNames → Option CalendarMeaning → List ℕ → Option CalendarMeaning
meant_in names otherwise field =
    or_meant (calendar_meant (entries names) field) (if_empty otherwise (without_blanks field))

-- the calendar of a record: one for all, or by a field
abbrev pub calendar_text : CalendarNames → CalendarField → Fields → List ℕ
calendar_text names (calendar.All meaning) fields = calendar_name (calendar_of meaning)
calendar_text names (calendar.Column column) fields =
    or_field (get_or fields column.place []) (meant_in names column.otherwise (get_or fields column.place []))

-- the calendar that a text of a register names
abbrev pub is_name : List ℕ → Calendar → Bool
is_name text calendar = bytes_eq (str_to_ascii_lowercase (trimmed text)) (calendar_name calendar)

unfoldable pub calendar_called : List ℕ → Option Calendar
calendar_called text = if is_utf8 text then find (is_name text) all_calendars else None

abbrev pub one_called : List ℕ → Option CalendarMeaning
one_called text = option_map One (calendar_called text)

-- what is meant for a record: that for all; what its field means, or else the calendar that the field names
abbrev pub meaning_in : CalendarNames → CalendarField → Fields → Option CalendarMeaning
meaning_in names (calendar.All meaning) fields = Some meaning
meaning_in names (calendar.Column column) fields =
    or_meant (meant_in names column.otherwise (get_or fields column.place []))
    (one_called (get_or fields column.place []))

-- what a field of a date says that names its calendar itself, where this is meant for its record
abbrev pub own_by : SheetChoice → Option CalendarMeaning → List ℕ → Option OwnDate
own_by choice meaning field =
    if has_styles meaning then own_date choice.calendars.now choice.names.now.listed.now field else None

abbrev pub own_in : SheetChoice → DateColumn → Fields → Option OwnDate
own_in choice column fields =
    own_by choice (meaning_in choice.calendars.now column.calendar fields) (get_or fields column.date [])

-- the text of a record's date, its calendar as the register has it, and what is meant for it: as the date says itself, or
-- else as its record does
abbrev pub date_text : SheetChoice → DateColumn → Fields → List ℕ
date_text choice column fields = or_date (get_or fields column.date []) (own_in choice column fields)

abbrev pub calendar_for : SheetChoice → DateColumn → Fields → List ℕ
calendar_for choice column fields =
    or_calendar (calendar_text choice.calendars.now column.calendar fields) (own_in choice column fields)

abbrev pub meaning_for : SheetChoice → DateColumn → Fields → Option CalendarMeaning
meaning_for choice column fields =
    or_meaning (meaning_in choice.calendars.now column.calendar fields) (own_in choice column fields)

-- the calendar of a record's date, where one is meant
abbrev pub called_for : SheetChoice → DateColumn → Fields → Option Calendar
called_for choice column fields = option_map calendar_of (meaning_for choice column fields)

-- the record that the register of a column of dates has of the record with this number, for this end of its date
abbrev pub register_record : SheetChoice → DateColumn → ℕ → Fields → EndText → Fields
register_record choice column number fields end =
    id_text choice.id number fields
    ∷ end_calendar end.calendar (calendar_for choice column fields) ∷ end.text ∷ []

-- the entry whose row this end has
abbrev pub row_entry : SheetChoice → DateColumn → ℕ → Fields → EndText → Numbered
row_entry choice column number fields end = record {
  number = number;
  body = body_of Plain (id_text choice.id number fields
      ∷ row_calendar end.calendar (calendar_for choice column fields)
      ∷ row_text end.calendar end.text ∷ []);
}

-- what is wrong with a choice, and that nothing is
pub record HasDates (choice : SheetChoice) : Type 0 where
  pub some : 0 < length choice.dates.now
  pub few : nat_lt date_limit (length choice.dates.now) ≡ false

pub record AsksOnce (choice : SheetChoice) : Type 0 where
  pub few : nat_lt column_limit (length choice.columns.now) ≡ false
  pub day : asks_twice choice.columns.now ≡ false
  pub targets : ¬ (NamesTwice (asked_targets choice.columns.now))
