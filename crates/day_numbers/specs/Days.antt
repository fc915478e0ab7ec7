-- Fixed day numbers and weekdays (Reingold and Dershowitz, Calendrical Calculations, "Calendar Basics").
-- A fixed day number, R.D., counts days; day 1 is Monday, 1 January of the Gregorian year 1.
use Rattle.std.specs.Prelude.{ℕ, ℤ, pos, neg_ℤ, ◌≤ℤ◌, unsigned_abs, Option, IfSome, List, [], ◌∷◌, codes}
use Rattle.std.specs.Int.{int_rem_euclid}
use Rattle.day_numbers.specs.Numbered.{words}
use Rattle.day_numbers.specs.declared.day.Weekday.{Weekday}
use Rattle.day_numbers.specs.declared.day.Weekday.TheVariants.{Sunday, Monday, Tuesday, Wednesday, Thursday, Friday}
use Rattle.day_numbers.specs.declared.day.Weekday.TheVariants.{Saturday}

-- a day from 1 January -9999 to 31 December 9999, Gregorian
abbrev pub IsDayNumber : ℤ → Type 0
IsDayNumber n = (neg_ℤ (pos 3_652_424) ≤ℤ n) × (n ≤ℤ pos 3_652_059)

-- a day of a calendar that has a first day, or any day where it has none
abbrev pub IsSinceFirstDay : Option ℤ → ℤ → Type 0
IsSinceFirstDay first_day n = IfSome first_day (λ first. first ≤ℤ n)

-- the weekday of day n is n mod 7, rounded down: 0 for Sunday to 6 for Saturday
abbrev pub weekday_number : ℤ → ℕ
weekday_number n = unsigned_abs (int_rem_euclid n (pos 7))

-- the weekdays in the order of their numbers
abbrev pub all_weekdays : List Weekday
all_weekdays = Sunday ∷ Monday ∷ Tuesday ∷ Wednesday ∷ Thursday ∷ Friday ∷ Saturday ∷ []

-- their names, in the same order
abbrev pub weekday_names : List (List ℕ)
weekday_names = words (codes "Sunday Monday Tuesday Wednesday Thursday Friday Saturday")
