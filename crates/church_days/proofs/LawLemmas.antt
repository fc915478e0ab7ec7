-- What days are called.
use Rattle.std.proofs.Common.{◌≡◌, ◌∙◌, ℕ, zero, suc, ℤ, refl, sym, subst, arith}
use Rattle.std.proofs.Common.{List, [], ◌∷◌, Option, Some, None}
use Rattle.std.specs.List.{All, Contains}
use Rattle.day_numbers.proofs.DateLemmas.{rules_one_date}
use Rattle.day_numbers.specs.declared.ymd.Ymd.{Ymd}
use Rattle.church_year.specs.declared.churches.Church.{Church}
use Rattle.church_year.specs.Easter.{rules_of}
use Rattle.church_days.specs.DayNames.{DayName, day_names}
use Rattle.church_days.specs.Names.{FallsOn, IsFirst, IsNameOn, nameless, named, later}
use Rattle.church_days.specs.Laws.{IsOnDay, OneName, NamesMeanDays, NamelessDays}

-- ---- one name
one_first : (church : Church) (date : Ymd) (names : List DayName) (a b : Option (List ℕ)) → IsFirst church date names a
    → IsFirst church date names b → a ≡ b
one_first church date [] a b nameless nameless = refl
one_first church date (name ∷ rest) a b (named f) (named g) = refl
one_first church date (name ∷ rest) a b (named f) (later never first) = absurd (never f)
one_first church date (name ∷ rest) a b (later never first) (named g) = absurd (never g)
one_first church date (name ∷ rest) a b (later never first) (later also second) =
    one_first church date rest a b first second

-- what is first on the day is first for each date of it
first_on : (church : Church) (date : Ymd) (n : ℤ) (found : Option (List ℕ)) → IsOnDay church date n
    → IsNameOn church n found → IsFirst church date day_names found
first_on church date n found is on =
    subst (λ (d : Ymd). IsFirst church d day_names found)
    (rules_one_date (rules_of church) on.date date on.is_date is.is_date (on.of_day ∙ sym is.of_day)) on.first

pub one_name : OneName
one_name church n a b first second =
    one_first church first.date day_names a b first.first
    (first_on church first.date n b (record { is_date = first.is_date; of_day = first.of_day }) second)

-- ---- a name means the date
pub record IsIn (church : Church) (date : Ymd) (names : List DayName) (text : List ℕ) : Type 0 where
  pub name : DayName
  pub listed : Contains names name
  pub text_is : name.text ≡ text
  pub falls : FallsOn church date name

first_is : (church : Church) (date : Ymd) (names : List DayName) (found : Option (List ℕ)) (text : List ℕ)
    → found ≡ Some text → IsFirst church date names found → IsIn church date names text
first_is church date [] found text is nameless = absurd (cc)
first_is church date (name ∷ rest) found text is (named falls) =
    record { name = name; listed = (0, omega arith, refl); text_is = cc; falls = falls }
first_is church date (name ∷ rest) found text is (later never first) =
    let there = first_is church date rest found text is first in
    record {
      name = there.name;
      listed = (suc there.listed.0, omega (arith, there.listed.1), there.listed.2);
      text_is = there.text_is;
      falls = there.falls;
    }

pub names_mean_days : NamesMeanDays
names_mean_days church date n text is on =
    let there = first_is church date day_names (Some text) text refl (first_on church date n (Some text) is on) in
    record { name = there.name; listed = there.listed; text_is = there.text_is; falls = there.falls }

-- ---- no name
none_falls : (church : Church) (date : Ymd) (names : List DayName) (found : Option (List ℕ)) → found ≡ None
    → IsFirst church date names found → All (λ name. ¬ FallsOn church date name) names
none_falls church date [] found is nameless k d lt = absurd (omega (arith, lt))
none_falls church date (name ∷ rest) found is (named falls) k d lt = absurd (cc)
none_falls church date (name ∷ rest) found is (later never first) zero d lt = never
none_falls church date (name ∷ rest) found is (later never first) (suc k) d lt =
    none_falls church date rest found is first k d (omega (arith, lt))

is_nameless : (church : Church) (date : Ymd) (names : List DayName)
    → All (λ name. ¬ FallsOn church date name) names → IsFirst church date names None
is_nameless church date [] never = nameless
is_nameless church date (name ∷ rest) never =
    later (never 0 name (omega arith))
    (is_nameless church date rest (λ k d lt. never (suc k) d (omega (arith, lt))))

pub nameless_days : NamelessDays
nameless_days church date n is = (
  λ on. none_falls church date day_names None refl (first_on church date n None is on),
  λ never. record {
    date = date;
    is_date = is.is_date;
    of_day = is.of_day;
    first = is_nameless church date day_names never;
  },
)
