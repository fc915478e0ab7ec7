-- What the field `means` of a list says, by a form of this project. Each meaning is said by one text.
use Rattle.std.specs.Prelude.{◌≡◌, ◌<◌, ◌≤◌, ◌≤ℤ◌, ◌++◌, ℕ, ℤ, pos, neg_ℤ, List, [], ◌∷◌, codes, if◌then◌else◌}
use Rattle.std.specs.Fmt.{decimal, signed_decimal}
use Rattle.std.specs.Ordering.{int_eq}
use Rattle.church_year.specs.declared.feasts.Anchor.TheVariants as anchors
use Rattle.church_year.specs.declared.feasts.Feast.{Feast}
use Rattle.church_year.specs.declared.feasts.Feast.TheVariants.{Day, Sunday}
use Rattle.church_year.specs.declared.feasts.Season.{Season}
use Rattle.church_year.specs.declared.feasts.Season.TheVariants as seasons
use Rattle.day_numbers.specs.Days.{IsDayNumber}
use Rattle.day_numbers.specs.declared.day.Weekday.{Weekday}
use Rattle.day_numbers.specs.declared.day.Weekday.TheVariants as weekdays
use Rattle.date_texts.specs.Calendars.{calendar_name}
use Rattle.date_texts.specs.DateText.{IsDateText}
use Rattle.date_texts.specs.Dates.{IsDateOfCalendar, day_number_of_date}
use Rattle.date_texts.specs.Names.{IsNamed}
use Rattle.date_texts.specs.declared.calendar.Calendar.{Calendar}
use Rattle.date_texts.specs.declared.calendar.Calendar.TheVariants.{Gregorian}
use Rattle.date_texts.specs.declared.date.Date.{Date}
use Rattle.written_dates.specs.declared.fields.CalendarMeaning.{CalendarMeaning}
use Rattle.written_dates.specs.declared.fields.CalendarMeaning.TheVariants.{One, Both, Changed}
use Rattle.written_dates.specs.declared.meanings.Era.{Era}
use Rattle.written_dates.specs.declared.meanings.Era.TheVariants as eras
use Rattle.written_dates.specs.declared.meanings.Mark.{Mark}
use Rattle.written_dates.specs.declared.meanings.Mark.TheVariants.{Kalends, Nones, Ides}
use Rattle.written_dates.specs.declared.meanings.Meaning.{Meaning}
use Rattle.written_dates.specs.declared.meanings.Meaning.TheVariants as meaning
use Rattle.written_dates.specs.declared.meanings.Relation.{Relation}
use Rattle.written_dates.specs.declared.meanings.Relation.TheVariants.{After, Before, Eve, Morrow, Octave}
use Rattle.written_dates.specs.declared.meanings.Word.{Word}
use Rattle.written_dates.specs.declared.meanings.Word.TheVariants as words
use Rattle.sheets.specs.declared.name_meanings.Means.{Means}
use Rattle.sheets.specs.declared.name_meanings.Means.TheVariants as means

-- a word for year, by the era of its years
abbrev pub era_name : Era → List ℕ
era_name eras.Calendar = codes "year"
era_name eras.Spanish = codes "year spanish"
era_name eras.Creation = codes "year creation"

abbrev pub mark_name : Mark → List ℕ
mark_name Kalends = codes "K"
mark_name Nones = codes "N"
mark_name Ides = codes "I"

abbrev pub weekday_name : Weekday → List ℕ
weekday_name weekdays.Sunday = codes "weekday 0"
weekday_name weekdays.Monday = codes "weekday 1"
weekday_name weekdays.Tuesday = codes "weekday 2"
weekday_name weekdays.Wednesday = codes "weekday 3"
weekday_name weekdays.Thursday = codes "weekday 4"
weekday_name weekdays.Friday = codes "weekday 5"
weekday_name weekdays.Saturday = codes "weekday 6"

abbrev pub relation_name : Relation → List ℕ
relation_name After = codes "after"
relation_name Before = codes "before"
relation_name Eve = codes "eve"
relation_name Morrow = codes "morrow"
relation_name Octave = codes "octave"

abbrev pub word_name : Word → List ℕ
word_name words.About = codes "about"
word_name words.From = codes "from"
word_name words.To = codes "to"
word_name words.Between = codes "between"
word_name words.And = codes "and"
word_name words.Undated = codes "undated"

abbrev pub season_name : Season → List ℕ
season_name seasons.Epiphany = codes "epiphany"
season_name seasons.Lent = codes "lent"
season_name seasons.Easter = codes "easter"
season_name seasons.Pentecost = codes "pentecost"
season_name seasons.Trinity = codes "trinity"
season_name seasons.Advent = codes "advent"

-- the text is a number within these bounds
abbrev pub IsNumberIn : ℕ → ℕ → List ℕ → ℕ → Type 0
IsNumberIn least most text number = (least ≤ number) × (number ≤ most) × (text ≡ decimal number)

-- the text is this word, a blank, and such a number
abbrev pub IsWordAndNumber : List ℕ → ℕ → ℕ → List ℕ → ℕ → Type 0
IsWordAndNumber word least most text number =
    (least ≤ number) × (number ≤ most) × (text ≡ word ++ 32 ∷ decimal number)

-- the text says a month and a later one, with a dash (45) between them
abbrev pub AreMonths : List ℕ → ℕ → ℕ → Type 0
AreMonths text first last =
    (1 ≤ first) × (first < last) × (last ≤ 13) × (text ≡ codes "months " ++ (decimal first ++ 45 ∷ decimal last))

-- the text says one of two, three or four parts, with a slash (47) between its place and their number
abbrev pub IsPart : List ℕ → ℕ → ℕ → Type 0
IsPart text place parts =
    (1 ≤ place) × (place ≤ parts) × (2 ≤ parts) × (parts ≤ 4)
    × (text ≡ codes "part " ++ (decimal place ++ 47 ∷ decimal parts))

-- a feast is a year at most from another day
abbrev pub IsFewDays : ℤ → Type 0
IsFewDays days = (neg_ℤ (pos 366) ≤ℤ days) × (days ≤ℤ pos 366)

-- the text is a day of a month, and how many days from it, where these are not 0
abbrev pub day_name : ℕ → ℤ → List ℕ
day_name day days = decimal day ++ (if int_eq days (pos 0) then [] else (32 ∷ signed_decimal days))

-- so many days from Easter; so many days from a day of each year; or the Sunday of a number in a season
abbrev pub SaysFeast : List ℕ → Feast → Type 0
SaysFeast field (Day anchors.Easter days) = IsFewDays days × (field ≡ codes "easter " ++ signed_decimal days)
SaysFeast field (Day (anchors.Fixed month day) days) =
    (1 ≤ month) × (month ≤ 12) × (1 ≤ day) × (day ≤ 31) × IsFewDays days
    × (field ≡ codes "feast " ++ (decimal month ++ 45 ∷ day_name day days))
SaysFeast field (Sunday season number) =
    (1 ≤ number) × (number ≤ 53) × (field ≡ codes "sunday " ++ (season_name season ++ 32 ∷ decimal number))

-- the field says this of a name in dates
abbrev pub SaysMeaning : List ℕ → Meaning → Type 0
SaysMeaning field meaning.Nothing = field ≡ []
SaysMeaning field (meaning.YearWord era) = field ≡ era_name era
SaysMeaning field meaning.DayWord = field ≡ codes "day"
SaysMeaning field (meaning.Month month) = IsWordAndNumber (codes "month") 1 13 field month
SaysMeaning field meaning.Adar = field ≡ codes "month 12-13"
SaysMeaning field (meaning.Months first last) = AreMonths field first last
SaysMeaning field (meaning.Part place parts) = IsPart field place parts
SaysMeaning field meaning.LastDay = field ≡ codes "last day"
SaysMeaning field (meaning.Century first) = IsWordAndNumber (codes "century") 0 1 field first
SaysMeaning field meaning.Decade = field ≡ codes "decade"
SaysMeaning field (meaning.Number number) = IsNumberIn 0 999_999_999 field number
SaysMeaning field (meaning.Mark mark) = field ≡ mark_name mark
SaysMeaning field (meaning.Weekday weekday) = field ≡ weekday_name weekday
SaysMeaning field (meaning.DecadeDay day) = IsWordAndNumber (codes "decade") 1 10 field day
SaysMeaning field (meaning.Relation relation) = field ≡ relation_name relation
SaysMeaning field (meaning.Feast feast) = SaysFeast field feast
SaysMeaning field (meaning.Sundays season) = field ≡ codes "sundays " ++ season_name season
SaysMeaning field (meaning.Word word) = field ≡ word_name word

-- no calendar has the name, which says that the Gregorian calendar is in use from a day on, by its date in it, and the
-- Julian one before
pub record SaysChange (field : List ℕ) (from : ℤ) : Type 0 where
  pub no_calendar : (calendar : Calendar) → ¬ (IsNamed field (calendar_name calendar))
  pub text : List ℕ
  pub is : field ≡ codes "julian/gregorian:" ++ text
  pub date : Date
  pub says : IsDateText Gregorian text date
  pub is_date : IsDateOfCalendar date
  pub day : from ≡ day_number_of_date date
  pub is_day : IsDayNumber from

-- the field says this of the calendar of dates
abbrev pub SaysCalendar : List ℕ → CalendarMeaning → Type 0
SaysCalendar field (One calendar) = IsNamed field (calendar_name calendar)
SaysCalendar field Both = field ≡ codes "both"
SaysCalendar field (Changed from) = SaysChange field from

-- the field says this of a name
abbrev pub Says : List ℕ → Means → Type 0
Says field (means.InDates meaning) = SaysMeaning field meaning
Says field (means.Calendar meaning) = SaysCalendar field meaning
Says field means.Open = field ≡ codes "?"
