-- Dates: which calendar a date is of, whether the calendar has it, and its day.
use Rattle.std.specs.Prelude.{ℤ}
use Rattle.solar_calendars.specs.Roman.{roman_day_number, IsRomanDate}
use Rattle.maya_calendars.specs.LongCounts.{IsLongCount, long_day}
use Rattle.date_texts.specs.declared.calendar.Calendar.{Calendar}
use Rattle.date_texts.specs.declared.calendar.Calendar.TheVariants.{Longcount, Roman as RomanCalendar}
use Rattle.date_texts.specs.declared.date.Date.{Date}
use Rattle.date_texts.specs.declared.date.Date.TheVariants.{Civil, Long, Roman}
use Rattle.date_texts.specs.Calendars.{IsDateBy, day_number_by, reckoning}

abbrev pub calendar_of_date : Date → Calendar
calendar_of_date (Civil d) = d.calendar
calendar_of_date (Long n) = Longcount
calendar_of_date (Roman d) = RomanCalendar

-- the date's calendar has it
abbrev pub IsDateOfCalendar : Date → Type 0
IsDateOfCalendar (Civil d) = IsDateBy (reckoning d.calendar) d.ymd
IsDateOfCalendar (Long n) = IsLongCount n
IsDateOfCalendar (Roman d) = IsRomanDate d.year d.month d.name

-- the fixed day number of a date
abbrev pub day_number_of_date : Date → ℤ
day_number_of_date (Civil d) = day_number_by (reckoning d.calendar) d.ymd
day_number_of_date (Long n) = long_day n
day_number_of_date (Roman d) = roman_day_number d.year d.month d.name
