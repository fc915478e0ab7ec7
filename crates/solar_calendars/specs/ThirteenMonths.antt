-- Calendars of twelve months of 30 days and a short thirteenth month, whose years begin with year 1
-- (Reingold and Dershowitz, Calendrical Calculations, "Calendar Basics" for the Egyptian and the Armenian calendar
-- and "The Coptic and Ethiopic Calendars").
use Rattle.std.specs.Prelude.{Bool, false, List, [], ◌∷◌, ◌==◌, if◌then◌else◌, ℤ, pos, neg_ℤ}
use Rattle.day_numbers.specs.declared.rules.Month.{Month}
use Rattle.day_numbers.specs.Rules.{Rules, from_one, numbered_from}
use Rattle.solar_calendars.specs.Remainder.{remainder}

-- the thirteenth month has 5 days, and 6 in a leap year
abbrev pub thirteen_months : Bool → List Month
thirteen_months leap =
    numbered_from 1 (30 ∷ 30 ∷ 30 ∷ 30 ∷ 30 ∷ 30 ∷ 30 ∷ 30 ∷ 30 ∷ 30 ∷ 30 ∷ 30 ∷ (if leap then 6 else 5) ∷ [])

-- the calendar with this first day and these leap years
abbrev pub thirteen_month_rules : ℤ → (ℤ → Bool) → Rules
thirteen_month_rules first is_leap =
    record { epoch = first; years = from_one; months = λ y. thirteen_months (is_leap y) }

-- the years 3, 7, 11, ..
abbrev pub is_third_of_four : ℤ → Bool
is_third_of_four y = remainder y 4 == 3

-- from 29 August 284, Julian
abbrev pub coptic_rules : Rules
coptic_rules = thirteen_month_rules (pos 103_605) is_third_of_four

-- from 29 August 8, Julian
abbrev pub ethiopic_rules : Rules
ethiopic_rules = thirteen_month_rules (pos 2_796) is_third_of_four

-- from 26 February 747 before our era, Julian, with no leap years
abbrev pub egyptian_rules : Rules
egyptian_rules = thirteen_month_rules (neg_ℤ (pos 272_787)) (λ y. false)

-- from 11 July 552, Julian, with none either
abbrev pub armenian_rules : Rules
armenian_rules = thirteen_month_rules (pos 201_443) (λ y. false)
