-- Laws of what is read: it is what was written.
use Rattle.std.specs.Prelude.{◌≡◌, ◌⊎◌, ℕ, ◌+◌, ◌*◌, ◌<◌, ◌≤◌, Bool, true, false, if◌then◌else◌, List, [], ◌∷◌, ◌++◌, Some, None, is_some}
use Rattle.std.specs.Char.{is_ascii_digit}
use Rattle.std.specs.List.{filter, Contains}
use Rattle.std.specs.List.Sorted.{IsPermutation}
use Rattle.day_numbers.specs.declared.day.Weekday.{Weekday as NamedWeekday}
use Rattle.date_texts.specs.declared.calendar.Calendar.{Calendar}
use Rattle.date_texts.specs.declared.calendar.Calendar.TheVariants.{Gregorian, Julian, French, Republican}
use Rattle.church_year.specs.declared.feasts.Place.{Place}
use Rattle.church_year.specs.declared.feasts.Season.{Season}
use Rattle.church_year.specs.declared.feasts.Feast.TheVariants as feasts
use Rattle.written_dates.specs.declared.written.Answer.{Answer}
use Rattle.written_dates.specs.Calendars.{form}
use Rattle.written_dates.specs.declared.calendars.Form.TheVariants as forms
use Rattle.written_dates.specs.declared.items.Number.{Number as Numeral}
use Rattle.written_dates.specs.declared.items.Item.{Item}
use Rattle.written_dates.specs.declared.items.Item.TheVariants.{Number, Month, Weekday, DecadeDay}
use Rattle.written_dates.specs.declared.meanings.Name.{Name}
use Rattle.written_dates.specs.declared.rules.Reading.{Reading}
use Rattle.written_dates.specs.declared.rules.InYear.{InYear}
use Rattle.written_dates.specs.declared.rules.InYear.TheVariants as days
use Rattle.written_dates.specs.declared.written.Answer.TheVariants.{Stays, OtherWeekday, Date}
use Rattle.written_dates.specs.declared.written.Choice.{Choice}
use Rattle.written_dates.specs.Tokens.{Piece, kind_of, tokens}
use Rattle.written_dates.specs.Items.{is_long, is_of_calendar}
use Rattle.written_dates.specs.Signs.{has_bar_between, has_minus, has_mixed_signs, is_between, three_runs, runs_behind_minus}
use Rattle.written_dates.specs.Rules.{plain_reading}
use Rattle.written_dates.specs.Sums.{found_items}
use Rattle.written_dates.specs.Weekdays.{is_decade_day, is_on, IsOn}
use Rattle.written_dates.specs.Written.{answer, counted, date_by_rule, date_of, items_answer, short_rule, written}

-- a date is read of a text that has these items, by these names, in this calendar
pub record IsRead (choice : Choice) (calendar : Calendar) (names : List Name) (text : List ℕ) (found : List Item)
    (year month day : ℕ) : Type 0 where
  pub has : found_items calendar names text ≡ Some found
  pub says : answer choice calendar names text ≡ Date year month day

-- of a text with a weekday only a date is read that is on this weekday, by the calendar's own day numbers
abbrev pub WeekdaysAgree : Type 0
WeekdaysAgree =
    (choice : Choice) (calendar : Calendar) (names : List Name) (text : List ℕ) (found : List Item) (year month day : ℕ)
    (weekday : NamedWeekday) → IsRead choice calendar names text found year month day
    → Contains found (Weekday weekday) → IsOn calendar year month day weekday

-- nor is one read that is not the day of a decade which stands in the text
abbrev pub DecadeDaysAgree : Type 0
DecadeDaysAgree =
    (choice : Choice) (calendar : Calendar) (names : List Name) (text : List ℕ) (found : List Item) (year month day n : ℕ)
    → IsRead choice calendar names text found year month day → Contains found (DecadeDay n)
    → is_decade_day calendar month day n ≡ true

-- what is found, if it is a date on this weekday
abbrev pub if_on : Calendar → NamedWeekday → Answer → Answer
if_on calendar weekday (Date year month day) =
    if is_on calendar year month day weekday then Date year month day else OtherWeekday year month day
if_on calendar weekday found = found

-- and it is a test, and no more: where items say a year, a month and a day, the same with a weekday in front of them, or
-- behind them, say the same, if it is on this weekday
abbrev pub WeekdaysOnlyTest : Type 0
WeekdaysOnlyTest =
    (choice : Choice) (calendar : Calendar) (pieces : List Piece) (said : List Item) (reading : Reading) (weekday : NamedWeekday)
    → form calendar ≡ forms.Civil → plain_reading pieces choice.order said ≡ Some reading
    → (items_answer choice calendar pieces said ≡ date_of choice calendar (Some reading))
    × (items_answer choice calendar pieces (Weekday weekday ∷ said)
    ≡ if_on calendar weekday (date_of choice calendar (Some reading)))
    × (items_answer choice calendar pieces (said ++ Weekday weekday ∷ [])
    ≡ if_on calendar weekday (date_of choice calendar (Some reading)))

-- ---- nothing is left over
abbrev pub is_no_weekday : Item → Bool
is_no_weekday (Weekday w) = false
is_no_weekday (DecadeDay n) = false
is_no_weekday item = true

abbrev pub without_weekdays : List Item → List Item
without_weekdays found = filter is_no_weekday found

-- a month by name, or a number that is not long
abbrev pub IsMonthItem : Item → ℕ → Type 0
IsMonthItem (Month m) month = m ≡ month
IsMonthItem (Number n) month = (n.value ≡ month) × (is_long n ≡ false)
IsMonthItem item month = ⊥

-- a number that is not long
abbrev pub IsDayItem : Item → ℕ → Type 0
IsDayItem (Number n) day = (n.value ≡ day) × (is_long n ≡ false)
IsDayItem item day = ⊥

-- the items but weekdays are these three, in some order: the year, a month and a day
pub record AreYearMonthDay (found : List Item) (year : Numeral) (month day : ℕ) : Type 0 where
  pub month_item : Item
  pub day_item : Item
  pub order : IsPermutation (without_weekdays found) (Number year ∷ month_item ∷ day_item ∷ [])
  pub is_month : IsMonthItem month_item month
  pub is_day : IsDayItem day_item day

abbrev pub is_numeral : Item → Bool
is_numeral (Number n) = true
is_numeral (Month m) = true
is_numeral item = false

-- the numbers and months among the items
abbrev pub numerals : List Item → List Item
numerals found = filter is_numeral found

-- the number of a numbered Sunday, and the year
pub record AreSundayAndYear (found : List Item) (year : Numeral) (day : InYear) : Type 0 where
  pub number : Numeral
  pub season : Season
  pub order : numerals found ≡ Number number ∷ Number year ∷ []
  pub short : is_long number ≡ false
  pub no_day : number.day ≡ false
  pub place : Place
  pub is_sunday : day ≡ days.Feast (feasts.Sunday season number.value) place

-- every number and every month among the items is used: as year, month and day; as year, month and the number of a weekday
-- that stands among them; or beside a feast as the year, or as the number of a Sunday and the year
abbrev pub UsesAll : List Item → Numeral → InYear → Type 0
UsesAll found year (days.Day month day) = AreYearMonthDay found year month day
UsesAll found year (days.NumberedWeekday n weekday month) =
    AreYearMonthDay found year month n × Contains found (Weekday weekday)
UsesAll found year (days.Feast feast place) =
    (numerals found ≡ Number year ∷ []) ⊎ AreSundayAndYear found year (days.Feast feast place)

-- what is read is made of all of them, and is the date that they mean, by the rule for the year
abbrev pub NothingIsLeftOver : Type 0
NothingIsLeftOver =
    (choice : Choice) (calendar : Calendar) (names : List Name) (text : List ℕ) (found : List Item) (year month day : ℕ)
    → IsRead choice calendar names text found year month day
    → (number : Numeral) × (in_year : InYear) × UsesAll found number in_year
    × (date_by_rule (short_rule choice calendar number) calendar (counted number in_year) in_year ≡ Date year month day)

-- a number of four digits is the year, in every order
abbrev pub LongNumbersAreYears : Type 0
LongNumbersAreYears =
    (choice : Choice) (calendar : Calendar) (names : List Name) (text : List ℕ) (found : List Item) (year month day : ℕ)
    (n : Numeral) → IsRead choice calendar names text found year month day → Contains found (Number n) → 4 ≤ n.digits
    → is_of_calendar n.year ≡ true → year ≡ n.value

-- a number behind a word for year is the year, by the rule for it
abbrev pub YearWordsNameYears : Type 0
YearWordsNameYears =
    (choice : Choice) (calendar : Calendar) (names : List Name) (text : List ℕ) (found : List Item) (year month day : ℕ)
    (n : Numeral) → IsRead choice calendar names text found year month day → Contains found (Number n) → is_some n.year ≡ true
    → (in_year : InYear)
    × (date_by_rule (short_rule choice calendar n) calendar (counted n in_year) in_year ≡ Date year month day)

abbrev pub IsOfChurch : Calendar → Type 0
IsOfChurch calendar = (calendar ≡ Gregorian) ⊎ (calendar ≡ Julian)

-- a Gregorian or Julian year by name is written whole: it is no number by name below 100
abbrev pub NamedYearsAreWhole : Type 0
NamedYearsAreWhole =
    (choice : Choice) (calendar : Calendar) (names : List Name) (text : List ℕ) (found : List Item) (year month day : ℕ)
    → IsOfChurch calendar → IsRead choice calendar names text found year month day
    → (number : Numeral) × (in_year : InYear) × UsesAll found number in_year
    × (number.named ≡ true → 100 ≤ number.value)

-- a month by name is the month, wherever it stands
abbrev pub MonthsAreMonths : Type 0
MonthsAreMonths =
    (choice : Choice) (calendar : Calendar) (names : List Name) (text : List ℕ) (found : List Item) (year month day m : ℕ)
    → IsRead choice calendar names text found year month day → Contains found (Month m) → month ≡ m

-- behind a month by name the year is last, and the number between is the day, and is not long
abbrev pub DaysStandBehindMonths : Type 0
DaysStandBehindMonths =
    (choice : Choice) (calendar : Calendar) (names : List Name) (text : List ℕ) (year month day m : ℕ) (a c : Numeral)
    → IsRead choice calendar names text (Month m ∷ Number a ∷ Number c ∷ []) year month day
    → (day ≡ a.value) × (is_long a ≡ false)

-- of three numbers of which only the middle one is Roman or a name, it is the month, in every order
abbrev pub RomanNumbersAreMonths : Type 0
RomanNumbersAreMonths =
    (choice : Choice) (calendar : Calendar) (names : List Name) (text : List ℕ) (year month day : ℕ) (a b c : Numeral)
    → IsRead choice calendar names text (Number a ∷ Number b ∷ Number c ∷ []) year month day
    → 0 < a.digits → b.digits ≡ 0 → 0 < c.digits → month ≡ b.value

-- of three numbers a date is read only where their signs are alike, and dashes and slashes are none or two
abbrev pub MixedSignsStay : Type 0
MixedSignsStay =
    (choice : Choice) (calendar : Calendar) (names : List Name) (text : List ℕ) (year month day : ℕ) (a b c : Numeral)
    → IsRead choice calendar names text (Number a ∷ Number b ∷ Number c ∷ []) year month day
    → has_mixed_signs (tokens 0 text) ≡ false

-- and behind a month, with a year that is not long, only where no dash and no slash stands between day and year
abbrev pub DaysToDaysStay : Type 0
DaysToDaysStay =
    (choice : Choice) (calendar : Calendar) (names : List Name) (text : List ℕ) (year month day m : ℕ) (a c : Numeral)
    → IsRead choice calendar names text (Month m ∷ Number a ∷ Number c ∷ []) year month day
    → is_long c ≡ false → has_bar_between (tokens 0 text) ≡ false

-- the second Sunday of a month is one of its second seven days, and so on; and where the day of the month of this number
-- is on the weekday too, it is this day
abbrev pub NumberedWeekdays : Type 0
NumberedWeekdays =
    (choice : Choice) (calendar : Calendar) (names : List Name) (text : List ℕ) (year month day m : ℕ) (n y : Numeral)
    (w : NamedWeekday)
    → IsRead choice calendar names text (Number n ∷ Weekday w ∷ Month m ∷ Number y ∷ []) year month day
    → (7 * n.value < day + 7) × (day ≤ 7 * n.value) × (is_on calendar year month n.value w ≡ true → day ≡ n.value)

-- no date is read of a text in which a dash stands before a digit, behind a blank or a sign
abbrev pub MinusesAreNotRead : Type 0
MinusesAreNotRead =
    (choice : Choice) (calendar : Calendar) (names : List Name) (text : List ℕ) → has_minus (tokens 0 text) ≡ true
    → answer choice calendar names text ≡ Stays

-- such a dash is found wherever it stands, whatever is before it and behind it: the dash of registers (45) behind a byte
-- of a blank or a sign, and before a digit
abbrev pub HyphensAreMinuses : Type 0
HyphensAreMinuses =
    (before rest : List ℕ) (c d : ℕ) → is_between (kind_of c) ≡ true → is_ascii_digit d ≡ true
    → has_minus (tokens 0 (before ++ c ∷ 45 ∷ d ∷ rest)) ≡ true

-- so it stays, unless it is a date as registers have them
abbrev pub MinusesStay : Type 0
MinusesStay =
    (choice : Choice) (calendar : Calendar) (names : List Name) (text : List ℕ) → has_minus (tokens 0 text) ≡ true
    → three_runs (tokens 0 text) ≡ None → runs_behind_minus (tokens 0 text) ≡ None
    → written choice (Some calendar) names text ≡ text

abbrev pub IsRepublican : Calendar → Type 0
IsRepublican calendar = (calendar ≡ French) ⊎ (calendar ≡ Republican)

-- the French Republic had no year over 99
abbrev pub YearsOfTheRepublic : Type 0
YearsOfTheRepublic =
    (choice : Choice) (calendar : Calendar) (names : List Name) (text : List ℕ) (year month day : ℕ) → IsRepublican calendar
    → answer choice calendar names text ≡ Date year month day → year ≤ 99
