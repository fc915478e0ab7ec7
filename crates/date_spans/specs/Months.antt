-- The months of a year, by a calendar's own rules: those that the definition of a valid date asks for.
use Rattle.std.specs.Prelude.{ℕ, zero, suc, Bool, true, false, not, ◌==◌, List, [], ◌∷◌, if◌then◌else◌, pos}
use Rattle.day_numbers.specs.Rules.{Years, with_zero, Rules, days_of_month}
use Rattle.day_numbers.specs.declared.rules.Month.{Month}
use Rattle.date_texts.specs.Calendars.{Reckoning, by_rules, reckoning}
use Rattle.date_texts.specs.declared.calendar.Calendar.{Calendar}

-- a calendar with these years has this one
abbrev pub has_year : Years → ℕ → Bool
has_year with_zero year = true
has_year years zero = false
has_year years (suc year) = true

-- the months of a year in the order in which they run; none where the calendar has no such year
unfoldable pub months_in : Rules → ℕ → List Month
months_in rules year = if has_year rules.years year then rules.months (pos year) else []

abbrev pub months_by : Reckoning → ℕ → List Month
months_by (by_rules rules) year = months_in rules year
months_by other year = []

abbrev pub months_of : Calendar → ℕ → List Month
months_of calendar year = months_by (reckoning calendar) year

-- the numbers of the first and of the last of these months; 0, which no month has, where there is none
abbrev pub first_month : List Month → ℕ
first_month [] = 0
first_month (m ∷ months) = m.number

abbrev pub last_month : List Month → ℕ
last_month [] = 0
last_month (m ∷ []) = m.number
last_month (m ∷ n ∷ months) = last_month (n ∷ months)

-- a year of these months has Adar twice: it has a month 13
abbrev pub has_two_adars : List Month → Bool
has_two_adars months = not (days_of_month months 13 == 0)

-- the last month that is Adar
abbrev pub last_adar : List Month → ℕ
last_adar months = if has_two_adars months then 13 else 12
