-- The lists of the months of the haab and of the names of the tzolkin have each once, in the order of their variants.
use Rattle.std.proofs.Common.{◌∷◌, codes, ◌≡◌, ℕ, ◌+◌, ◌-◌, ◌≤◌, refl, arith, List, [], get_or}
use Rattle.std.proofs.lemmas.Bool.Decides.{nat_tests}
use Rattle.day_numbers.specs.Numbered.{IsNumbered, name_of_number, words}
use Rattle.day_numbers.proofs.NameLemmas.{named_by_tag}
use Rattle.maya_calendars.specs.HaabNames.{all_months, month_names, last_day}
use Rattle.maya_calendars.specs.TzolkinNames.{all_names, name_texts}
use Rattle.maya_calendars.specs.declared.haab.HaabMonth.{HaabMonth}
use Rattle.maya_calendars.specs.declared.haab.HaabMonth.TheVariants.{Pop}
use Rattle.maya_calendars.specs.declared.tzolkin.TzolkinName.{TzolkinName}
use Rattle.maya_calendars.specs.contracts.haab.HaabMonth.{the_type as the_months}
use Rattle.maya_calendars.specs.contracts.tzolkin.TzolkinName.{the_type as the_names}
use denote.Enum.Declared.{tag_of}

-- the names of the months, and of the days, each by itself
abbrev spelled_months : List (List ℕ)
spelled_months =
    codes "Pop" ∷ codes "Uo" ∷ codes "Zip" ∷ codes "Zotz" ∷ codes "Tzec" ∷ codes "Xul" ∷ codes "Yaxkin" ∷ codes "Mol"
    ∷ codes "Chen" ∷ codes "Yax" ∷ codes "Zac" ∷ codes "Ceh" ∷ codes "Mac" ∷ codes "Kankin" ∷ codes "Muan" ∷ codes "Pax"
    ∷ codes "Kayab" ∷ codes "Cumku" ∷ codes "Uayeb" ∷ []

months_spelled : month_names ≡ spelled_months
unfolding words
months_spelled = refl

abbrev spelled_names : List (List ℕ)
spelled_names =
    codes "Imix" ∷ codes "Ik" ∷ codes "Akbal" ∷ codes "Kan" ∷ codes "Chicchan" ∷ codes "Cimi" ∷ codes "Manik"
    ∷ codes "Lamat" ∷ codes "Muluc" ∷ codes "Oc" ∷ codes "Chuen" ∷ codes "Eb" ∷ codes "Ben" ∷ codes "Ix" ∷ codes "Men"
    ∷ codes "Cib" ∷ codes "Caban" ∷ codes "Etznab" ∷ codes "Cauac" ∷ codes "Ahau" ∷ []

names_spelled : name_texts ≡ spelled_names
unfolding words
names_spelled = refl

-- a month stands at the place of its tag, and only there
pub month_at : (m : HaabMonth) → IsNumbered all_months (tag_of the_months m + 1) m
month_at Pop = (omega arith, refl)
month_at m = (omega arith, refl)

pub month_named : (m : HaabMonth) (number : ℕ) → IsNumbered all_months number m
    → name_of_number month_names number ≡ get_or spelled_months (tag_of the_months m) []
month_named m number e = grind (arith, named_by_tag, spelled_months, months_spelled)

-- the last day of a month is 19 at most
pub day_below : (day : ℕ) (m : HaabMonth)
    → ((number : ℕ) → IsNumbered all_months number m → day ≤ last_day number) → day ≤ 19
day_below day m h = grind (arith, h (tag_of the_months m + 1) (month_at m), nat_tests)

-- so does a name
pub name_named : (name : TzolkinName) (place : ℕ) → IsNumbered all_names place name
    → name_of_number name_texts place ≡ get_or spelled_names (tag_of the_names name) []
name_named name place e =
    named_by_tag (tag_of the_names) all_names 20 (place - 1) name name_texts spelled_names refl names_spelled e.1
