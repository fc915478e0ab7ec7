-- The calendars: their names, which are this project's own, and their dates, day numbers and first days,
-- by each calendar's own rules (Reingold and Dershowitz, Calendrical Calculations; for week dates ISO 8601).
use Rattle.std.specs.Prelude.{◌≢◌, ℕ, ℤ, pos, Option, Some, None, List, [], ◌∷◌, ◌++◌, map, codes}
use Rattle.day_numbers.specs.declared.ymd.Ymd.{Ymd}
use Rattle.day_numbers.specs.Rules.{Rules, IsDateOf, day_number_of, first_day_of}
use Rattle.solar_calendars.specs.Gregorian.{gregorian_rules}
use Rattle.solar_calendars.specs.IsoWeek.{IsWeekDate, week_day_number}
use Rattle.solar_calendars.specs.Julian.{julian_rules}
use Rattle.solar_calendars.specs.ThirteenMonths.{coptic_rules, ethiopic_rules, egyptian_rules, armenian_rules}
use Rattle.solar_calendars.specs.French.{french_rules, republican_rules}
use Rattle.lunar_calendars.specs.Islamic.{islamic_rules}
use Rattle.lunar_calendars.specs.Hebrew.{hebrew_rules}
use Rattle.maya_calendars.specs.Rounds.{epoch as long_count_epoch}
use Rattle.date_texts.specs.declared.calendar.Calendar.{Calendar}
use Rattle.date_texts.specs.declared.calendar.Calendar.TheVariants.{Gregorian, Iso, Julian, Coptic, Ethiopic, Egyptian}
use Rattle.date_texts.specs.declared.calendar.Calendar.TheVariants.{Armenian, Islamic, Hebrew, Longcount, French, Roman}
use Rattle.date_texts.specs.declared.calendar.Calendar.TheVariants.{Republican}
use Rattle.date_texts.specs.declared.target.Target.{Target}
use Rattle.date_texts.specs.declared.grammar.Grammar.{Grammar}
use Rattle.date_texts.specs.declared.grammar.Grammar.TheVariants as grammars
use Rattle.date_texts.specs.declared.target.Target.TheVariants.{Date as DateTarget, Haab, Tzolkin}

-- how a calendar counts days: by rules for its years and months, by years of weeks, by a count in places, or by names
pub data Reckoning : Type 0 where
  by_rules : Rules → Reckoning
  by_weeks : Reckoning
  by_places : Reckoning
  by_names : Reckoning

-- what a calendar is known by: its name, and how it counts days
abbrev pub known_by : Calendar → List ℕ × Reckoning
known_by Gregorian = (codes "gregorian", by_rules gregorian_rules)
known_by Iso = (codes "iso", by_weeks)
known_by Julian = (codes "julian", by_rules julian_rules)
known_by Coptic = (codes "coptic", by_rules coptic_rules)
known_by Ethiopic = (codes "ethiopic", by_rules ethiopic_rules)
known_by Egyptian = (codes "egyptian", by_rules egyptian_rules)
known_by Armenian = (codes "armenian", by_rules armenian_rules)
known_by Islamic = (codes "islamic", by_rules islamic_rules)
known_by Hebrew = (codes "hebrew", by_rules hebrew_rules)
known_by Longcount = (codes "longcount", by_places)
known_by French = (codes "french", by_rules french_rules)
known_by Roman = (codes "roman", by_names)
known_by Republican = (codes "republican", by_rules republican_rules)

abbrev pub calendar_name : Calendar → List ℕ
calendar_name calendar = (known_by calendar).0

abbrev pub reckoning : Calendar → Reckoning
reckoning calendar = (known_by calendar).1

abbrev pub target_name : Target → List ℕ
target_name (DateTarget calendar) = calendar_name calendar
target_name Haab = codes "haab"
target_name Tzolkin = codes "tzolkin"

-- the calendars whose dates stand in a table by default, in their order
abbrev pub default_calendars : List Calendar
default_calendars =
    Gregorian ∷ Iso ∷ Julian ∷ Coptic ∷ Ethiopic ∷ Egyptian ∷ Armenian ∷ Islamic ∷ Hebrew ∷ Longcount ∷ French ∷ Roman
    ∷ []

-- every calendar
abbrev pub all_calendars : List Calendar
all_calendars = default_calendars ++ Republican ∷ []

-- what stands in a table by default: the dates of these calendars, the haab and the tzolkin
abbrev pub default_targets : List Target
default_targets = map DateTarget default_calendars ++ Haab ∷ Tzolkin ∷ []

-- every target
abbrev pub all_targets : List Target
all_targets = default_targets ++ DateTarget Republican ∷ []

-- how the dates of a calendar are written
abbrev pub grammar : Calendar → Grammar
grammar Iso = grammars.Week
grammar Longcount = grammars.LongCount
grammar Roman = grammars.Roman
grammar calendar = grammars.Civil

-- a date of the calendar is a year, a month and a day, or a year, a week and a weekday
abbrev pub IsCivil : Calendar → Type 0
IsCivil calendar = (calendar ≢ Longcount) × (calendar ≢ Roman)

-- the numbers are a date: a year, a month and a day, or a year, a week and a weekday; no long count and no Roman date
-- is written so
abbrev pub IsDateBy : Reckoning → Ymd → Type 0
IsDateBy (by_rules rules) d = IsDateOf rules d.year d.month d.day
IsDateBy by_weeks d = IsWeekDate d.year d.month d.day
IsDateBy reckoning d = ⊥

-- the fixed day number of a date; 0, on which nothing rests, where no numbers are a date
abbrev pub day_number_by : Reckoning → Ymd → ℤ
day_number_by (by_rules rules) d = day_number_of rules d.year d.month d.day
day_number_by by_weeks d = week_day_number d.year d.month d.day
day_number_by reckoning d = pos 0

-- the first day where there is one: years of weeks and Roman names go back without end, and 0.0.0.0.0 begins the long
-- count
abbrev pub first_day_by : Reckoning → Option ℤ
first_day_by (by_rules rules) = first_day_of rules
first_day_by by_places = Some long_count_epoch
first_day_by reckoning = None
