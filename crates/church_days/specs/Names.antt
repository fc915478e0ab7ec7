-- What a day is called in the church year.
use Rattle.std.specs.Prelude.{◌≡◌, ℕ, ℤ, List, [], ◌∷◌, Option, Some, None}
use Rattle.day_numbers.specs.Rules.{IsDateOf, day_number_of}
use Rattle.day_numbers.specs.declared.ymd.Ymd.{Ymd}
use Rattle.church_year.specs.declared.churches.Church.{Church}
use Rattle.church_year.specs.Easter.{rules_of}
use Rattle.church_year.specs.Feasts.{IsFeastDate}
use Rattle.church_days.specs.DayNames.{DayName, day_names}

-- a date is the one that a name means in its year
abbrev pub FallsOn : Church → Ymd → DayName → Type 0
FallsOn church date name = (year : ℕ) × IsFeastDate church year name.feast name.place date

-- the first of these names that means a date, if any does
pub data IsFirst (church : Church) (date : Ymd) : List DayName → Option (List ℕ) → Type 0 where
  nameless : IsFirst church date [] None
  named : {name : DayName} {rest : List DayName} → FallsOn church date name
      → IsFirst church date (name ∷ rest) (Some name.text)
  later : {name : DayName} {rest : List DayName} {found : Option (List ℕ)} → ¬ FallsOn church date name
      → IsFirst church date rest found → IsFirst church date (name ∷ rest) found

-- day n is called so: by the first of all names that means its date
pub record IsNameOn (church : Church) (n : ℤ) (found : Option (List ℕ)) : Type 0 where
  pub date : Ymd
  pub is_date : IsDateOf (rules_of church) date.year date.month date.day
  pub of_day : day_number_of (rules_of church) date.year date.month date.day ≡ n
  pub first : IsFirst church date day_names found
