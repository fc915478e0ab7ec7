-- Texts that say the name of a day and its year, and are read as its date.
use Rattle.std.specs.Prelude.{◌≡◌, ◌||◌, ℕ, pos, true, false, List, Some, None}
use Rattle.std.specs.List.{list_all}
use Rattle.day_numbers.specs.declared.ymd.Ymd.{Ymd}
use Rattle.church_year.specs.declared.churches.Church.{Church}
use Rattle.church_year.specs.declared.churches.Church.TheVariants as churches
use Rattle.date_texts.specs.declared.calendar.Calendar.{Calendar}
use Rattle.date_texts.specs.declared.calendar.Calendar.TheVariants.{Gregorian, Julian}
use Rattle.written_dates.specs.declared.items.Item.{Item}
use Rattle.written_dates.specs.declared.items.Number.{Number as Numeral}
use Rattle.written_dates.specs.declared.meanings.Name.{Name}
use Rattle.written_dates.specs.declared.rules.InYear.TheVariants.{Feast}
use Rattle.written_dates.specs.declared.rules.Reading.TheVariants.{Civil}
use Rattle.written_dates.specs.declared.written.Choice.{Choice}
use Rattle.written_dates.specs.declared.written.Short.TheVariants.{Keep}
use Rattle.written_dates.specs.Rules.{civil_reading}
use Rattle.written_dates.specs.Signs.{bare, begins_with_dash, has_minus, has_other, runs_behind_minus, three_runs}
use Rattle.written_dates.specs.Sums.{found_items}
use Rattle.written_dates.specs.Tokens.{tokens}
use Rattle.written_dates.specs.Items.{is_of_calendar}
use Rattle.written_dates.specs.Written.{agrees, dated, is_half_year, short_rule, unless_turned, written}
use Rattle.church_days.specs.DayNames.{DayName}
use Rattle.church_days.specs.Names.{FallsOn}

abbrev pub calendar_of : Church → Calendar
calendar_of churches.Julian = Julian
calendar_of churches.Gregorian = Gregorian

-- a text says the day of a name in the year of a date, by these names: what it says is the name's feast in this year,
-- which is one of the calendar and written whole, and any weekday in it is that of the date
pub record SaysName (choice : Choice) (calendar : Calendar) (names : List Name) (text : List ℕ) (name : DayName)
    (date : Ymd) : Type 0 where
  pub found : List Item
  pub year : Numeral
  pub has : found_items calendar names text ≡ Some found
  pub says : civil_reading (tokens 0 text) choice.order found ≡ Some (Civil year (Feast name.feast name.place))
  pub of_year : date.year ≡ pos year.value
  pub of_calendar : is_of_calendar year.year ≡ true
  pub kept : short_rule choice calendar year ≡ Keep
  pub whole : is_half_year calendar year ≡ false
  pub agreed : list_all (agrees calendar year.value date.month date.day) found ≡ true

-- no date as registers have it stands in a text, and no minus, dash or other character that no date has
pub record IsInWords (choice : Choice) (text : List ℕ) : Type 0 where
  pub no_minus : runs_behind_minus (tokens 0 text) ≡ None
  pub no_runs : unless_turned choice.order (three_runs (tokens 0 text)) ≡ None
  pub plain : (has_other (tokens 0 text) || has_minus (tokens 0 text) || begins_with_dash (bare (tokens 0 text))) ≡ false

-- a text in words that says the name of a day in its year is read as its date
abbrev pub NamesReadBack : Type 0
NamesReadBack =
    (choice : Choice) (church : Church) (names : List Name) (text : List ℕ) (name : DayName) (date : Ymd) (year : ℕ)
    → FallsOn church date name → date.year ≡ pos year → IsInWords choice text
    → SaysName choice (calendar_of church) names text name date
    → written choice (Some (calendar_of church)) names text ≡ dated year date.month date.day
