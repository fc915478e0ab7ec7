-- More than five items name no day by a feast.
use Rattle.std.proofs.Common.{◌≡◌, ℕ, ◌+◌, ◌<◌, ◌≤◌, inr, List, [], ◌∷◌, length, refl, arith, Option, Some, None}
use Rattle.day_numbers.specs.declared.day.Weekday.{Weekday as Day}
use Rattle.church_year.specs.declared.churches.Church.{Church}
use Rattle.church_year.specs.declared.feasts.Feast.{Feast as Festival}
use Rattle.church_year.specs.declared.feasts.Place.{Place}
use Rattle.church_year.specs.FeastDates.{feast_date_in}
use Rattle.church_year.proofs.FeastDateLemmas.{out_of_years}
use Rattle.written_dates.specs.declared.meanings.Relation.{Relation as Related}
use Rattle.written_dates.specs.declared.items.Number.{Number as Numeral}
use Rattle.written_dates.specs.declared.items.Item.{Item}
use Rattle.written_dates.specs.declared.items.Item.TheVariants.{Number, Weekday, Relation, Feast, Sundays}
use Rattle.written_dates.specs.FeastRules.{weekday_first, number_first, relation_first, ending, behind_front}
use Rattle.written_dates.specs.FeastRules.{behind_number, behind_weekday, feast_naming}

-- what follows is at most one item shorter, and not shorter where there is none in front
pub weekday_rest : (xs : List Item) → (length xs ≤ length (weekday_first xs).1 + 1)
    × ((weekday_first xs).0 ≡ None → length xs ≤ length (weekday_first xs).1)
weekday_rest (Weekday w ∷ rest) = (omega arith, λ e. absurd (cc e))
weekday_rest xs = (omega arith, λ e. omega arith)

number_rest : (xs : List Item) → length xs ≤ length (number_first xs).1 + 1
number_rest (Number n ∷ rest) = omega arith
number_rest xs = omega arith

relation_rest : (xs : List Item) → length xs ≤ length (relation_first xs).1 + 1
relation_rest (Relation r ∷ rest) = omega arith
relation_rest xs = omega arith

long_ending : (w : Option Day) (n : Option Numeral) (r : Option Related) (xs : List Item) → 2 < length xs
    → ending w n r xs ≡ None
long_ending w n r (Feast f ∷ Number y ∷ []) h = absurd (omega arith)
long_ending w n r (Sundays s ∷ Number y ∷ []) h = absurd (omega arith)
long_ending w n r xs h = refl

long_front : (w : Option Day) (n : Option Numeral) (xs : List Item) → 3 < length xs → behind_front w n xs ≡ None
long_front w n xs h = long_ending w n (relation_first xs).0 (relation_first xs).1 (omega (arith, relation_rest xs))

long_number : (w : Option Day) (n : Option Numeral) (xs : List Item) → 3 < length xs
    → (w ≡ None → 4 < length xs) → behind_number w n xs ≡ None
long_number None n xs h more =
    long_front (weekday_first xs).0 n (weekday_first xs).1 (omega (arith, more refl, (weekday_rest xs).0))
long_number (Some w) n xs h more = long_front (Some w) n xs h

long_weekday : (w : Option Day) (xs : List Item) → 4 < length xs → (w ≡ None → 5 < length xs)
    → behind_weekday w xs ≡ None
long_weekday w xs h more =
    long_number w (number_first xs).0 (number_first xs).1 (omega (arith, number_rest xs))
    (λ e. omega (arith, number_rest xs, more e))

pub long_naming : (xs : List Item) → 5 < length xs → feast_naming xs ≡ None
long_naming xs h =
    long_weekday (weekday_first xs).0 (weekday_first xs).1 (omega (arith, (weekday_rest xs).0))
    (λ e. omega (arith, (weekday_rest xs).1 e))

-- no church has a feast after the year 9999
pub never_named : (church : Church) (year : ℕ) (feast : Festival) (place : Place) → 9_999 < year
    → feast_date_in church year feast place ≡ None
never_named church year feast place h = out_of_years church year feast place (inr (omega arith, h))
