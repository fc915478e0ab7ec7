-- Names in a list: the one of a variant, and what holds of each.
use Rattle.std.proofs.Common.{◌≡◌, ℕ, zero, suc, ◌+◌, Some, refl, sym, ap, ◌∙◌, arith, List, [], ◌∷◌, map, get_or, Bool}
use Rattle.std.specs.Prelude.{codes, IsTrue}
use Rattle.std.proofs.lemmas.Bool.{and_parts}
use Rattle.std.proofs.lemmas.Option.{slice_get-map}
use Rattle.std.specs.List.{list_all, range_with_len, slice_get}
use Rattle.std.specs.Option.{option_map}
use Rattle.day_numbers.specs.Days.{all_weekdays, weekday_names}
use Rattle.day_numbers.specs.Numbered.{words}
use Rattle.day_numbers.specs.declared.day.Weekday.{Weekday}
use Rattle.day_numbers.specs.contracts.day.Weekday.{the_type as the_weekdays}
use denote.Enum.Declared.{tag_of}

-- what a test finds of each name, and of no text, it finds of the name at any place
pub each_name : (test : List ℕ → Bool) (names : List (List ℕ)) (place : ℕ) → IsTrue (test [])
    → IsTrue (list_all test names) → IsTrue (test (get_or names place []))
each_name test [] place none all = none
each_name test (x ∷ xs) zero none all = (and_parts (test x) (list_all test xs) all).0
each_name test (x ∷ xs) (suc place) none all =
    each_name test xs place none (and_parts (test x) (list_all test xs) all).1

range_place : (a n k j : ℕ) → slice_get (range_with_len a n) k ≡ Some j → j ≡ a + k
range_place a zero k j e = cc
range_place a (suc n) zero j e = let same : a ≡ j = cc in omega arith
range_place a (suc n) (suc k) j e = let later = range_place (a + 1) n k j e in omega arith

-- where tags count the items of a list from 0 on, an item stands at the place of its tag, and only there
place_is_tag : {A : Type 0} (tag : A → ℕ) (items : List A) (n place : ℕ) (x : A) → map tag items ≡ range_with_len 0 n
    → slice_get items place ≡ Some x → place ≡ tag x
place_is_tag tag items n place x counted e =
    let tag_at : slice_get (range_with_len 0 n) place ≡ Some (tag x) =
    ap (λ tags. slice_get tags place) (sym counted) ∙ slice_get-map tag items place ∙ ap (option_map tag) e in
    let counted_place = range_place 0 n place (tag x) tag_at in
    omega arith

-- so the name at the place of an item, of names that are spelled as these, is the one at the place of its tag
pub named_by_tag : {A : Type 0} (tag : A → ℕ) (items : List A) (n place : ℕ) (x : A) (names spelled : List (List ℕ))
    → map tag items ≡ range_with_len 0 n → names ≡ spelled → slice_get items place ≡ Some x
    → get_or names place [] ≡ get_or spelled (tag x) []
named_by_tag tag items n place x names spelled counted same e = cc (place_is_tag tag items n place x counted e)

abbrev spelled_weekdays : List (List ℕ)
spelled_weekdays =
    codes "Sunday" ∷ codes "Monday" ∷ codes "Tuesday" ∷ codes "Wednesday" ∷ codes "Thursday" ∷ codes "Friday"
    ∷ codes "Saturday" ∷ []

weekdays_spelled : weekday_names ≡ spelled_weekdays
unfolding words
weekdays_spelled = refl

pub weekday_named : (weekday : Weekday) (number : ℕ) → slice_get all_weekdays number ≡ Some weekday
    → get_or weekday_names number [] ≡ get_or spelled_weekdays (tag_of the_weekdays weekday) []
weekday_named weekday number e = grind (arith, named_by_tag, spelled_weekdays, weekdays_spelled)
