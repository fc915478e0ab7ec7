-- The months of the Roman year, January to December, which the Gregorian and the Julian calendar share
-- (Reingold and Dershowitz, Calendrical Calculations, "The Gregorian Calendar").
use Rattle.std.specs.Prelude.{Bool, List, [], ◌∷◌, if◌then◌else◌}
use Rattle.day_numbers.specs.declared.rules.Month.{Month}
use Rattle.day_numbers.specs.Rules.{numbered_from}

-- a leap year has its leap day in February
abbrev pub twelve_months : Bool → List Month
twelve_months leap =
    numbered_from 1 (31 ∷ (if leap then 29 else 28) ∷ 31 ∷ 30 ∷ 31 ∷ 30 ∷ 31 ∷ 31 ∷ 30 ∷ 31 ∷ 30 ∷ 31 ∷ [])
