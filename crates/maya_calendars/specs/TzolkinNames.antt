-- The tzolkin: a number from 1 to 13 and one of twenty names, which both move one place on each day
-- (Reingold and Dershowitz, Calendrical Calculations, "The Mayan Calendars").
use Rattle.std.specs.Prelude.{ℕ, ℤ, List, [], ◌∷◌, codes}
use Rattle.day_numbers.specs.Numbered.{words}
use Rattle.maya_calendars.specs.Rounds.{number_after, round_number}
use Rattle.maya_calendars.specs.declared.tzolkin.TzolkinName.{TzolkinName}
use Rattle.maya_calendars.specs.declared.tzolkin.TzolkinName.TheVariants.{Imix, Ik, Akbal, Kan, Chicchan, Cimi, Manik}
use Rattle.maya_calendars.specs.declared.tzolkin.TzolkinName.TheVariants.{Lamat, Muluc, Oc, Chuen, Eb, Ben, Ix, Men}
use Rattle.maya_calendars.specs.declared.tzolkin.TzolkinName.TheVariants.{Cib, Caban, Etznab, Cauac, Ahau}

-- the names in their order, from place 1 to place 20
abbrev pub all_names : List TzolkinName
all_names =
    Imix ∷ Ik ∷ Akbal ∷ Kan ∷ Chicchan ∷ Cimi ∷ Manik ∷ Lamat ∷ Muluc ∷ Oc ∷ Chuen ∷ Eb ∷ Ben ∷ Ix ∷ Men ∷ Cib ∷ Caban
    ∷ Etznab ∷ Cauac ∷ Ahau ∷ []

-- how they are written, in the same order
abbrev pub name_texts : List (List ℕ)
name_texts =
    words (codes "Imix Ik Akbal Kan Chicchan Cimi Manik Lamat Muluc Oc Chuen Eb Ben Ix Men Cib Caban Etznab Cauac Ahau")

-- the tzolkin of a day, as its number and the place of its name; that of the epoch is 4 Ahau, the last name
abbrev pub tzolkin_of : ℤ → ℕ × ℕ
tzolkin_of day = (round_number 13 4 day, round_number 20 20 day)

-- the tzolkin after a tzolkin
abbrev pub tzolkin_after : ℕ × ℕ → ℕ × ℕ
tzolkin_after (number, name) = (number_after 13 number, number_after 20 name)
