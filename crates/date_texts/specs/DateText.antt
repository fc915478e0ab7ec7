-- The grammar of date texts, as a relation between a text, a calendar and a date, and the one canonical
-- text of a date. Both are this project's own, after the calendar dates and week dates of ISO 8601 (the
-- largest unit first, joined by dashes, W before a week), with shorter numbers and years before 0 allowed;
-- the places of a long count are joined by dots, and a Roman date has the name of a day in the place of the day.
use Rattle.std.specs.Prelude.{◌≡◌, ℕ, List}
use Rattle.date_texts.specs.declared.calendar.Calendar.{Calendar}
use Rattle.date_texts.specs.declared.calendar.Calendar.TheVariants.{Longcount, Roman as RomanCalendar}
use Rattle.date_texts.specs.declared.date.Date.{Date}
use Rattle.date_texts.specs.declared.date.Date.TheVariants.{Civil, Long, Roman}
use Rattle.date_texts.specs.Calendars.{grammar}
use Rattle.date_texts.specs.CivilText.{IsCivilText, canonical_civil}
use Rattle.date_texts.specs.LongText.{IsLongText, canonical_long}
use Rattle.date_texts.specs.RomanText.{IsRomanText, canonical_roman}
use Rattle.date_texts.specs.Trimmed.{trimmed}

-- a text without blanks at its ends says this date in the calendar
abbrev pub SaysDate : Calendar → List ℕ → Date → Type 0
SaysDate calendar text (Civil d) =
    (d.calendar ≡ calendar) × IsCivilText (grammar calendar) text d.ymd.year d.ymd.month d.ymd.day
SaysDate calendar text (Long n) = (Longcount ≡ calendar) × IsLongText text n.baktun n.katun n.tun n.uinal n.kin
SaysDate calendar text (Roman d) = (RomanCalendar ≡ calendar) × IsRomanText text d.year d.month d.name

-- a date text of the calendar: spaces and tabs at both ends are taken off
abbrev pub IsDateText : Calendar → List ℕ → Date → Type 0
IsDateText calendar text date = SaysDate calendar (trimmed text) date

-- the text that a date is written as
abbrev pub canonical_text : Date → List ℕ
canonical_text (Civil d) = canonical_civil (grammar d.calendar) d.ymd.year d.ymd.month d.ymd.day
canonical_text (Long n) = canonical_long n.baktun n.katun n.tun n.uinal n.kin
canonical_text (Roman d) = canonical_roman d.year d.month d.name
