-- Why records are refused, by number. Both are this project's own.
use Rattle.std.specs.Prelude.{ℕ}
use Rattle.day_numbers.specs.declared.calendar.DateFault.{DateFault}
use Rattle.day_numbers.specs.declared.calendar.DateFault.TheVariants.{NoSuchDate as NoSuchDateFault}
use Rattle.day_numbers.specs.declared.calendar.DateFault.TheVariants.{OutOfRange as OutOfRangeFault}
use Rattle.date_texts.specs.declared.refusal.Refusal.{Refusal}
use Rattle.date_texts.specs.declared.refusal.Refusal.TheVariants.{FieldCount, FieldTooLong, NotUtf8, UnknownCalendar}
use Rattle.date_texts.specs.declared.refusal.Refusal.TheVariants.{DateText, NoSuchDate, OutOfRange}

abbrev pub refusal_number : Refusal → ℕ
refusal_number FieldCount = 1
refusal_number FieldTooLong = 2
refusal_number NotUtf8 = 3
refusal_number UnknownCalendar = 4
refusal_number DateText = 5
refusal_number NoSuchDate = 6
refusal_number OutOfRange = 7

-- the refusal that a fault of a date becomes
abbrev pub refusal_of : DateFault → Refusal
refusal_of NoSuchDateFault = NoSuchDate
refusal_of OutOfRangeFault = OutOfRange
