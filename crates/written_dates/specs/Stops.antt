-- Why a date as people write it is not read.
use Rattle.std.specs.Prelude.{◌≡◌, ℕ, ◌||◌, false, if◌then◌else◌, List, [], ◌∷◌, Option, Some, None}
use Rattle.std.specs.List.{Contains}
use Rattle.date_texts.specs.declared.calendar.Calendar.{Calendar}
use Rattle.written_dates.specs.declared.items.Number.{Number as Numeral}
use Rattle.written_dates.specs.declared.items.Item.{Item}
use Rattle.written_dates.specs.declared.items.Item.TheVariants.{Weekday, DecadeDay, Number, Month}
use Rattle.written_dates.specs.declared.meanings.Name.{Name}
use Rattle.written_dates.specs.declared.rules.InYear.{InYear}
use Rattle.written_dates.specs.declared.stops.Stop.{Stop}
use Rattle.written_dates.specs.declared.stops.Stop.TheVariants as stops
use Rattle.written_dates.specs.declared.written.Answer.{Answer}
use Rattle.written_dates.specs.declared.written.Answer.TheVariants as answers
use Rattle.written_dates.specs.declared.written.Choice.{Choice}
use Rattle.written_dates.specs.Tokens.{tokens}
use Rattle.written_dates.specs.Items.{is_long}
use Rattle.written_dates.specs.ReadLaws.{UsesAll}
use Rattle.written_dates.specs.Rules.{beside_weekday}
use Rattle.written_dates.specs.Signs.{bare, begins_with_dash, has_minus, has_other}
use Rattle.written_dates.specs.Sums.{found_items}
use Rattle.written_dates.specs.Weekdays.{is_decade_day, is_on}
use Rattle.written_dates.specs.Written.{answer, before_time, counted, date_by_rule, short_rule}

-- what is missing in items that say no date: the day, where a year stands alone or beside a month; or the year beside a
-- month and a day
abbrev pub missing : List Item → Stop
missing (Month m ∷ Number n ∷ []) = if is_long n then stops.NoDay else stops.NoYear
missing (Number n ∷ Month m ∷ []) = if is_long n then stops.NoDay else stops.NoYear
missing (Number n ∷ []) = if is_long n then stops.NoDay else stops.NoDate
missing found = stops.NoDate

abbrev pub missing_in : Option (List Item) → Stop
missing_in None = stops.NoDate
missing_in (Some found) = missing (beside_weekday found)

abbrev pub stop_by : Stop → Answer → Option Stop
stop_by missing answers.Stays = Some missing
stop_by missing answers.NoSuchYear = Some stops.NoSuchYear
stop_by missing (answers.OtherWeekday year month day) = Some stops.OtherWeekday
stop_by missing answers.Refused = Some stops.ShortYear
stop_by missing answer = None

-- why no date is read of a text without a time of day
unfoldable pub stop_in : Choice → Calendar → List Name → List ℕ → Option Stop
stop_in choice calendar names text =
    if has_other (tokens 0 text) then Some stops.Character
    else if has_minus (tokens 0 text) || begins_with_dash (bare (tokens 0 text)) then Some stops.Minus
    else stop_by (missing_in (found_items calendar names text)) (answer choice calendar names text)

abbrev pub or_whole : List ℕ → Option (List ℕ) → List ℕ
or_whole text None = text
or_whole text (Some before) = before

-- the text that has to be a date: without a time of day at its end
abbrev pub without_time : Choice → Calendar → List Name → List ℕ → List ℕ
without_time choice calendar names text = or_whole text (before_time choice calendar names text)

-- why no date is read of a text
unfoldable pub stop : Choice → Calendar → List Name → List ℕ → Option Stop
stop choice calendar names text = stop_in choice calendar names (without_time choice calendar names text)

-- the year, the month and the day that a text says beside another weekday
abbrev pub beside_by : Answer → Option (ℕ × ℕ × ℕ)
beside_by (answers.OtherWeekday year month day) = Some (year, month, day)
beside_by answer = None

abbrev pub beside : Choice → Calendar → List Name → List ℕ → Option (ℕ × ℕ × ℕ)
beside choice calendar names text =
    beside_by (answer choice calendar names (without_time choice calendar names text))

-- the item is a weekday, or a day of a decade, and not that of the date
abbrev pub IsNotOn : Calendar → ℕ → ℕ → ℕ → Item → Type 0
IsNotOn calendar year month day (Weekday weekday) = is_on calendar year month day weekday ≡ false
IsNotOn calendar year month day (DecadeDay n) = is_decade_day calendar month day n ≡ false
IsNotOn calendar year month day item = ⊥

-- the items say a date, which uses them all, and a weekday among them is not that of this date
pub record SaysOtherWeekday (choice : Choice) (calendar : Calendar) (names : List Name) (text : List ℕ) : Type 0 where
  pub found : List Item
  pub has : found_items calendar names text ≡ Some found
  pub number : Numeral
  pub in_year : InYear
  pub uses : UsesAll found number in_year
  pub year : ℕ
  pub month : ℕ
  pub day : ℕ
  pub date : date_by_rule (short_rule choice calendar number) calendar (counted number in_year) in_year
      ≡ answers.Date year month day
  pub weekday : Item
  pub stands : Contains found weekday
  pub other : IsNotOn calendar year month day weekday

-- where another weekday is the reason, this is so of the text without a time of day at its end
abbrev pub OtherWeekdaysStop : Type 0
OtherWeekdaysStop =
    (choice : Choice) (calendar : Calendar) (names : List Name) (text : List ℕ)
    → stop choice calendar names text ≡ Some stops.OtherWeekday
    → SaysOtherWeekday choice calendar names (without_time choice calendar names text)
