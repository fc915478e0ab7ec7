-- What the numbers of a request ask of a sheet.
use Rattle.std.specs.Prelude.{◌==◌, ◌%◌, ◌&&◌, ◌++◌, ℕ, nat_le, if◌then◌else◌}
use Rattle.std.specs.Prelude.{List, [], ◌∷◌, map, Option, None, Some, slice_get}
use Rattle.date_texts.specs.Calendars.{all_calendars, all_targets}
use Rattle.sheets.specs.AskedOfSheets.{SheetAsked}
use Rattle.sheets.specs.declared.choices.AskedColumn.{AskedColumn}
use Rattle.sheets.specs.declared.choices.AskedColumn.TheVariants.{Cells, Church, DayNumber, Weekday}
use Rattle.sheets.specs.declared.choices.CalendarField.{CalendarField}
use Rattle.sheets.specs.declared.choices.CalendarField.TheVariants as calendar
use Rattle.sheets.specs.declared.choices.DateColumn.{DateColumn}
use Rattle.sheets.specs.declared.choices.IdField.{IdField}
use Rattle.sheets.specs.declared.choices.IdField.TheVariants as id
use Rattle.sheets.specs.declared.choices.Spans.{Spans}
use Rattle.sheets.specs.declared.choices.Spans.TheVariants as spans
use Rattle.written_dates.specs.Signs.{◌>>=◌}
use Rattle.written_dates.specs.declared.fields.CalendarMeaning.TheVariants.{One}
use Rattle.written_dates.specs.declared.rules.Order.{Order}
use Rattle.written_dates.specs.declared.rules.Order.TheVariants.{YearFirst, DayFirst, MonthFirst}
use Rattle.written_dates.specs.declared.written.Choice.{Choice}
use Rattle.written_dates.specs.declared.written.Short.{Short}
use Rattle.written_dates.specs.declared.written.Short.TheVariants.{Refuse, Keep, Add}
use Rattle.page_module.specs.declared.choices.DateNumbers.{DateNumbers}
use Rattle.page_module.specs.declared.choices.SheetRequest.{SheetRequest}

-- the number that stands for no place
abbrev pub no_place : ℕ
no_place = 4294967295

abbrev pub id_by : ℕ → IdField
id_by place = if place == no_place then id.Number else id.Column place

abbrev pub order_in : ℕ → Option Order
order_in n =
    if n == 0 then Some YearFirst else if n == 1 then Some DayFirst else if n == 2 then Some MonthFirst else None

-- short years are refused, kept, or a century from 100 to 2000 is added
abbrev pub short_by : ℕ → Option Short
short_by n =
    if n == 0 then Some Refuse
    else if n == 1 then Some Keep
    else if nat_le 100 n && nat_le n 2000 && (n % 100 == 0) then Some (Add n)
    else None

-- short Hebrew years are refused, kept, or 5000 is added
abbrev pub short_hebrew_by : ℕ → Option Short
short_hebrew_by n =
    if n == 0 then Some Refuse else if n == 1 then Some Keep else if n == 5000 then Some (Add 5000) else None

-- how dates are read: in which order, what is done with short Gregorian and Julian years, Hebrew ones and those of
-- other calendars, and whether the year of a Roman date is that of its day
abbrev pub reading_by : SheetRequest → Option Choice
reading_by request = do
  o ← order_in request.order
  y ← short_by request.short_years
  h ← short_hebrew_by request.short_hebrew_years
  s ← short_by request.short_other_years
  Some (record {
    order = o;
    short_years = y;
    short_hebrew_years = h;
    short_other_years = s;
    charters = request.charters;
  })

-- dates that say no single day are not read, or have a first and a last day, or the text of EDTF too
abbrev pub spans_by : ℕ → Option Spans
spans_by n =
    if n == 0 then Some spans.Unread
    else if n == 1 then Some spans.Ends
    else if n == 2 then Some spans.EndsAndEdtf
    else None

-- the calendar of a date is at this place, or that of this number
abbrev pub calendar_by : ℕ → ℕ → Option CalendarField
calendar_by place number =
    if place == no_place then (slice_get all_calendars number >>= λ c. Some (calendar.All (One c)))
    else Some (calendar.Column (record { place = place; otherwise = None }))

abbrev pub date_by : DateNumbers → Option DateColumn
date_by numbers =
    calendar_by numbers.place numbers.calendar >>= λ c. Some (record { date = numbers.date; calendar = c })

abbrev pub before : {A : Type 0} → A → Option (List A) → Option (List A)
before x None = None
before x (Some xs) = Some (x ∷ xs)

abbrev pub dates_by : List DateNumbers → Option (List DateColumn)
dates_by [] = Some []
dates_by (numbers ∷ rest) = date_by numbers >>= λ date. before date (dates_by rest)

-- the columns that may be asked: the day, the weekday, the targets, and the name of the day
abbrev pub page_columns : List AskedColumn
page_columns = DayNumber ∷ Weekday ∷ (map (λ target. Cells target) all_targets ++ Church ∷ [])

abbrev pub column_by : ℕ → Option AskedColumn
column_by n = slice_get page_columns n

abbrev pub columns_by : List ℕ → Option (List AskedColumn)
columns_by [] = Some []
columns_by (n ∷ rest) = column_by n >>= λ column. before column (columns_by rest)

abbrev pub asked_by : SheetRequest → Option SheetAsked
asked_by request = do
  reading ← reading_by request
  read ← spans_by request.spans
  dates ← dates_by request.dates.now
  columns ← columns_by request.columns.now
  Some (record {
    delimiter = request.delimiter;
    above = request.above;
    id = id_by request.id;
    reading = reading;
    spans = read;
    dates = dates;
    columns = columns;
  })
