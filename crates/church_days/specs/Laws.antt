-- Laws of the names of days.
use Rattle.std.specs.Prelude.{◌≡◌, ◌↔◌, ℕ, ℤ, List, Option, Some, None}
use Rattle.std.specs.List.{All, Contains}
use Rattle.day_numbers.specs.Rules.{IsDateOf, day_number_of}
use Rattle.day_numbers.specs.declared.ymd.Ymd.{Ymd}
use Rattle.church_year.specs.declared.churches.Church.{Church}
use Rattle.church_year.specs.Easter.{rules_of}
use Rattle.church_days.specs.DayNames.{DayName, day_names}
use Rattle.church_days.specs.Names.{FallsOn, IsNameOn}

-- a date of the church's calendar is on day n
pub record IsOnDay (church : Church) (date : Ymd) (n : ℤ) : Type 0 where
  pub is_date : IsDateOf (rules_of church) date.year date.month date.day
  pub of_day : day_number_of (rules_of church) date.year date.month date.day ≡ n

-- a day has one name, or none
abbrev pub OneName : Type 0
OneName = (church : Church) (n : ℤ) (a b : Option (List ℕ)) → IsNameOn church n a → IsNameOn church n b → a ≡ b

-- what a day is called is a name of the list that means its date
pub record IsNamed (church : Church) (date : Ymd) (text : List ℕ) : Type 0 where
  pub name : DayName
  pub listed : Contains day_names name
  pub text_is : name.text ≡ text
  pub falls : FallsOn church date name

abbrev pub NamesMeanDays : Type 0
NamesMeanDays =
    (church : Church) (date : Ymd) (n : ℤ) (text : List ℕ) → IsOnDay church date n → IsNameOn church n (Some text)
    → IsNamed church date text

-- and a day has none exactly where no name of the list means its date
abbrev pub NamelessDays : Type 0
NamelessDays =
    (church : Church) (date : Ymd) (n : ℤ) → IsOnDay church date n
    → IsNameOn church n None ↔ All (λ name. ¬ FallsOn church date name) day_names
