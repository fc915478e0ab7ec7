-- What is written for a text: the rules of this project for dates as people write them.
use Rattle.std.specs.Prelude.{ℕ, ◌+◌, ◌-◌, Bool, true, false, not, ◌&&◌, ◌||◌, nat_le, nat_lt, if◌then◌else◌}
use Rattle.std.specs.Prelude.{List, [], ◌∷◌, ◌++◌, length, Option, Some, None, is_some}
use Rattle.std.specs.Fmt.{decimal}
use Rattle.std.specs.List.{list_all}
use Rattle.date_texts.specs.declared.calendar.Calendar.{Calendar}
use Rattle.date_texts.specs.declared.calendar.Calendar.TheVariants.{Armenian, Coptic, Ethiopic, French, Gregorian, Hebrew}
use Rattle.date_texts.specs.declared.calendar.Calendar.TheVariants.{Islamic, Julian, Republican}
use Rattle.written_dates.specs.declared.calendars.Form.{Form}
use Rattle.written_dates.specs.declared.calendars.Form.TheVariants as forms
use Rattle.written_dates.specs.declared.meanings.Era.{Era}
use Rattle.written_dates.specs.declared.meanings.Era.TheVariants as eras
use Rattle.written_dates.specs.declared.meanings.Mark.{Mark}
use Rattle.written_dates.specs.declared.meanings.Mark.TheVariants.{Kalends, Nones, Ides}
use Rattle.written_dates.specs.declared.meanings.Name.{Name}
use Rattle.written_dates.specs.declared.items.Item.{Item}
use Rattle.written_dates.specs.declared.items.Item.TheVariants.{Weekday, DecadeDay}
use Rattle.written_dates.specs.declared.items.Number.{Number}
use Rattle.written_dates.specs.declared.rules.Order.{Order}
use Rattle.written_dates.specs.declared.rules.Reading.{Reading}
use Rattle.written_dates.specs.declared.rules.Reading.TheVariants.{Civil, Roman}
use Rattle.written_dates.specs.declared.rules.InYear.{InYear}
use Rattle.written_dates.specs.declared.rules.InYear.TheVariants.{Day, NumberedWeekday, Feast}
use Rattle.written_dates.specs.declared.written.Answer.{Answer}
use Rattle.written_dates.specs.declared.written.Answer.TheVariants.{Stays, NoSuchYear, OtherWeekday, Refused, Date, RomanDate}
use Rattle.written_dates.specs.declared.written.Short.{Short}
use Rattle.written_dates.specs.declared.written.Short.TheVariants.{Refuse, Keep, Add}
use Rattle.written_dates.specs.declared.written.Choice.{Choice}
use Rattle.church_year.specs.declared.churches.Church.{Church}
use Rattle.church_year.specs.declared.churches.Church.TheVariants as churches
use Rattle.church_year.specs.declared.feasts.Feast.{Feast as Festival}
use Rattle.church_year.specs.declared.feasts.Place.{Place}
use Rattle.church_year.specs.FeastDates.{feast_date_in}
use Rattle.written_dates.specs.Calendars.{form}
use Rattle.written_dates.specs.Tokens.{Piece, tokens}
use Rattle.written_dates.specs.Items.{number_of_digits}
use Rattle.written_dates.specs.Signs.{◌>>=◌, has_other, has_minus, bare, begins_with_dash, three_runs}
use Rattle.written_dates.specs.Signs.{runs_behind_minus}
use Rattle.written_dates.specs.Sums.{found_items}
use Rattle.written_dates.specs.Times.{timeless}
use Rattle.written_dates.specs.Weekdays.{is_decade_day, is_on, numbered_weekday}
use Rattle.written_dates.specs.Rules.{is_year_first, civil_reading, roman_reading}

-- what is done with a year that is short if it is below this bound and has at most so many digits
abbrev pub if_short : ℕ → ℕ → Number → Short → Short
if_short bound digits year rule = if nat_lt year.value bound && nat_le year.digits digits then rule else Keep

-- in calendars which count hundreds of years those under 100 are short, and Hebrew ones under 1000
abbrev pub rule_in : Choice → Calendar → Number → Short
rule_in choice Gregorian year = if_short 100 2 year choice.short_years
rule_in choice Julian year = if_short 100 2 year choice.short_years
rule_in choice Hebrew year = if_short 1000 3 year choice.short_hebrew_years
rule_in choice Islamic year = if_short 100 2 year choice.short_other_years
rule_in choice Coptic year = if_short 100 2 year choice.short_other_years
rule_in choice Ethiopic year = if_short 100 2 year choice.short_other_years
rule_in choice Armenian year = if_short 100 2 year choice.short_other_years
rule_in choice calendar year = Keep

-- a year beside a word for year is not refused, and kept where it is one of another era
abbrev pub unless_said : Option Era → Short → Short
unless_said None rule = rule
unless_said (Some eras.Calendar) (Add more) = Add more
unless_said era rule = Keep

-- what is done with a year
abbrev pub short_rule : Choice → Calendar → Number → Short
short_rule choice calendar year = unless_said year.year (rule_in choice calendar year)

-- a year, a month and a day, with dashes (45) between them
abbrev pub joined : List ℕ → List ℕ → List ℕ → List ℕ
joined year month day = year ++ (45 ∷ (month ++ (45 ∷ day)))

-- the same in plain numbers
abbrev pub dated : ℕ → ℕ → ℕ → List ℕ
dated year month day = joined (decimal year) (decimal month) (decimal day)

-- what is written by the rule for the year, where otherwise the kept text is
abbrev pub by_rule : Short → List ℕ → ℕ → ℕ → ℕ → List ℕ
by_rule Refuse kept year month day = []
by_rule Keep kept year month day = kept
by_rule (Add more) kept year month day = dated (year + more) month day

-- K, N or I
abbrev pub letter : Mark → ℕ
letter Kalends = 75
letter Nones = 78
letter Ides = 73

-- the church that reckons in a calendar
abbrev pub church_of : Calendar → Option Church
church_of Gregorian = Some churches.Gregorian
church_of Julian = Some churches.Julian
church_of calendar = None

abbrev pub feast_of : Option Church → ℕ → Festival → Place → Option (ℕ × ℕ)
feast_of None year feast place = None
feast_of (Some church) year feast place = feast_date_in church year feast place

abbrev pub in_month : ℕ → Option ℕ → Option (ℕ × ℕ)
in_month month None = None
in_month month (Some day) = Some (month, day)

-- the month and the day of a day that is named in a year, if the year has it
abbrev pub month_and_day : Calendar → ℕ → InYear → Option (ℕ × ℕ)
month_and_day calendar year (Day month day) = Some (month, day)
month_and_day calendar year (NumberedWeekday n weekday month) =
    in_month month (numbered_weekday calendar year month weekday n)
month_and_day calendar year (Feast feast place) = feast_of (church_of calendar) year feast place

-- a year in words: the French Republic had none over 99
abbrev pub has_year : Calendar → ℕ → Bool
has_year French year = nat_le year 99
has_year Republican year = nat_le year 99
has_year calendar year = true

abbrev pub date_or_stays : ℕ → Option (ℕ × ℕ) → Answer
date_or_stays year None = Stays
date_or_stays year (Some found) = Date year found.0 found.1

-- the date of a day that is named in this year
abbrev pub date_in : Calendar → ℕ → InYear → Answer
date_in calendar year day =
    if has_year calendar year then date_or_stays year (month_and_day calendar year day) else NoSuchYear

-- the same by the rule for the year
abbrev pub date_by_rule : Short → Calendar → ℕ → InYear → Answer
date_by_rule Refuse calendar year day = Refused
date_by_rule Keep calendar year day = date_in calendar year day
date_by_rule (Add more) calendar year day = date_in calendar (year + more) day

-- a year by name is written whole: none below 100 is Gregorian or Julian
abbrev pub is_half_year : Calendar → Number → Bool
is_half_year Gregorian year = year.named && nat_lt year.value 100
is_half_year Julian year = year.named && nat_lt year.value 100
is_half_year calendar year = false

-- a feast, where no church reckons
abbrev pub lacks_church : Option Church → InYear → Bool
lacks_church None (Feast feast place) = true
lacks_church church day = false

-- the year of the calendar that a year is which counts from 38 BC, or from 1 September 5509 BC
abbrev pub from_creation : ℕ → ℕ → ℕ
from_creation year month = if nat_le 9 month then year - 5_509 else year - 5_508

abbrev pub counted_by : Option Era → ℕ → InYear → ℕ
counted_by (Some eras.Spanish) year day = year - 38
counted_by (Some eras.Creation) year (Day month day) = from_creation year month
counted_by (Some eras.Creation) year (NumberedWeekday n weekday month) = from_creation year month
counted_by era year day = year

abbrev pub counted : Number → InYear → ℕ
counted year day = counted_by year.year year.value day

-- a year that begins in September, and a feast, whose month it does not have
abbrev pub lacks_month : Option Era → InYear → Bool
lacks_month (Some eras.Creation) (Feast feast place) = true
lacks_month era day = false

-- the date that a reading says
abbrev pub date_of : Choice → Calendar → Option Reading → Answer
date_of choice calendar None = Stays
date_of choice calendar (Some (Civil year day)) =
    if is_half_year calendar year || lacks_church (church_of calendar) day || lacks_month year.year day then Stays
    else date_by_rule (short_rule choice calendar year) calendar (counted year day) day
date_of choice calendar (Some (Roman year month mark count)) = RomanDate year month mark count

-- a weekday, or a day of a decade, that is named is that of the date
abbrev pub agrees : Calendar → ℕ → ℕ → ℕ → Item → Bool
agrees calendar year month day (Weekday weekday) = is_on calendar year month day weekday
agrees calendar year month day (DecadeDay n) = is_decade_day calendar month day n
agrees calendar year month day item = true

-- every weekday among the items has to be that of the date which is found
abbrev pub if_agreed : Calendar → List Item → Answer → Answer
if_agreed calendar found (Date year month day) =
    if list_all (agrees calendar year month day) found then Date year month day else OtherWeekday year month day
if_agreed calendar found answer = answer

-- what is written for it
abbrev pub answer_text : List ℕ → Answer → List ℕ
answer_text text Stays = text
answer_text text NoSuchYear = text
answer_text text (OtherWeekday year month day) = text
answer_text text Refused = []
answer_text text (Date year month day) = dated year month day
answer_text text (RomanDate year month mark count) =
    joined (decimal year) (decimal month) (letter mark ∷ decimal count)

-- the numbers that three runs of digits spell, if none has over nine digits
abbrev pub numbers : List ℕ × List ℕ × List ℕ → Option (Number × Number × Number)
numbers runs = do
  year ← number_of_digits runs.0
  month ← number_of_digits runs.1
  day ← number_of_digits runs.2
  Some (year, month, day)

-- what is written for a date as registers have it, which is kept where its numbers are too long
abbrev pub stood : Choice → Calendar → List ℕ → Option (Number × Number × Number) → List ℕ
stood choice calendar kept None = kept
stood choice calendar kept (Some n) =
    by_rule (short_rule choice calendar n.0) kept n.0.value n.1.value n.2.value

-- what items of a text of these tokens say in a calendar
abbrev pub reading_by : Form → Choice → List Piece → List Item → Option Reading
reading_by forms.Civil choice pieces found = civil_reading pieces choice.order found
reading_by forms.Roman choice pieces found = roman_reading choice.charters found
reading_by forms.Other choice pieces found = None

-- the date that items say
abbrev pub items_answer : Choice → Calendar → List Piece → List Item → Answer
items_answer choice calendar pieces found =
    if_agreed calendar found (date_of choice calendar (reading_by (form calendar) choice pieces found))

abbrev pub answer_by : Option (List Item) → (List Item → Answer) → Answer
answer_by None say = Stays
answer_by (Some found) say = say found

-- the date that a text says; none where a dash or a minus stands in it, in front or later, or a character that no date
-- has
unfoldable pub answer : Choice → Calendar → List Name → List ℕ → Answer
answer choice calendar names text =
    if has_other (tokens 0 text) || has_minus (tokens 0 text) || begins_with_dash (bare (tokens 0 text)) then Stays
    else answer_by (found_items calendar names text) (items_answer choice calendar (tokens 0 text))

-- where the order is not year first, the last of three runs is long and the first is not, the year is last
abbrev pub is_turned : Order → List ℕ → List ℕ → Bool
is_turned order first last = not (is_year_first order) && nat_le (length first) 2 && nat_le 3 (length last)

-- three runs of digits, as registers have them, unless the year is last
abbrev pub unless_turned : Order → Option (List ℕ × List ℕ × List ℕ) → Option (List ℕ × List ℕ × List ℕ)
unless_turned order None = None
unless_turned order (Some runs) = if is_turned order runs.0 runs.2 then None else Some runs

-- a dash in front, behind which three runs of digits stand, is a minus: the date stays. Three runs stay by the rule for
-- the year; any other text is read.
abbrev pub written_by : Choice → Calendar → List Name → List ℕ → Option (List ℕ × List ℕ × List ℕ)
    → Option (List ℕ × List ℕ × List ℕ) → List ℕ
written_by choice calendar names text (Some runs) below = 45 ∷ joined runs.0 runs.1 runs.2
written_by choice calendar names text None (Some runs) =
    stood choice calendar (joined runs.0 runs.1 runs.2) (numbers runs)
written_by choice calendar names text None None = answer_text text (answer choice calendar names text)

abbrev pub civil_text : Choice → Calendar → List Name → List ℕ → List ℕ
civil_text choice calendar names text =
    written_by choice calendar names text (runs_behind_minus (tokens 0 text))
    (unless_turned choice.order (three_runs (tokens 0 text)))

abbrev pub written_form : Form → Choice → Calendar → List Name → List ℕ → List ℕ
written_form forms.Civil choice calendar names text = civil_text choice calendar names text
written_form form choice calendar names text = answer_text text (answer choice calendar names text)

-- a date is found, if it be one whose short year is refused
abbrev pub is_found : Answer → Bool
is_found (Date year month day) = true
is_found Refused = true
is_found answer = false

-- a text is a date as registers have it, or says one
unfoldable pub is_dated : Choice → Calendar → List Name → List ℕ → Bool
is_dated choice calendar names text =
    is_some (unless_turned choice.order (three_runs (tokens 0 text))) || is_found (answer choice calendar names text)

abbrev pub unless : Bool → Option (List ℕ) → Option (List ℕ)
unless true before = None
unless false before = before

-- days begin at midnight, and in other calendars in the evening or at dawn
abbrev pub begins_at_midnight : Calendar → Bool
begins_at_midnight Gregorian = true
begins_at_midnight Julian = true
begins_at_midnight French = true
begins_at_midnight Republican = true
begins_at_midnight calendar = false

-- the text before a time of day at the end of one that is no date with it, and has no minus, in such a calendar
unfoldable pub before_time : Choice → Calendar → List Name → List ℕ → Option (List ℕ)
before_time choice calendar names text =
    unless (not (begins_at_midnight calendar) || has_minus (tokens 0 text) || is_dated choice calendar names text)
    (timeless text)

-- this one where it is a date, and else the whole text
abbrev pub if_dated : Choice → Calendar → List Name → List ℕ → Option (List ℕ) → List ℕ
if_dated choice calendar names text None = text
if_dated choice calendar names text (Some before) = if is_dated choice calendar names before then before else text

-- the text that is read: a time of day behind a date is left out
unfoldable pub dated_text : Choice → Calendar → List Name → List ℕ → List ℕ
dated_text choice calendar names text =
    if_dated choice calendar names text (before_time choice calendar names text)

-- what is written for a text: where no calendar is known, the text as it is
abbrev pub written : Choice → Option Calendar → List Name → List ℕ → List ℕ
written choice None names text = text
written choice (Some calendar) names text =
    written_form (form calendar) choice calendar names (dated_text choice calendar names text)
