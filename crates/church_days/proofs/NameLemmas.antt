-- The first name that means a date.
use Rattle.std.proofs.Common.{◌≡◌, ℕ, ◌+◌, ◌≤◌, ◌<◌, ◌⊎◌, ◌↔◌, ◌∙◌, ap, arith, rules, refl, sym, subst, Bool, ◌&&◌, ◌==◌, ℤ, pos, ◌<ℤ◌, List, [], ◌∷◌, Option, None, Some}
use Rattle.std.proofs.Common.{map, drop, length, get_or}
use Rattle.std.proofs.lemmas.List.{at_drop_all, at_drop_more}
use Rattle.std.proofs.lemmas.Bool.{and_parts}
use Rattle.std.proofs.lemmas.Bool.Decides.{Decides-eqb, Decides-int_eq}
use Rattle.std.specs.Bool.{Decides}
use Rattle.std.specs.Borrow.{Bor}
use Rattle.std.specs.Ordering.{int_eq}
use Rattle.day_numbers.proofs.DateLemmas.{ymd_same}
use Rattle.day_numbers.proofs.SignedArithmeticLemmas.{signed_arith}
use Rattle.day_numbers.specs.Rules.{IsDateOf, day_number_of}
use Rattle.day_numbers.specs.declared.ymd.Ymd.{Ymd}
use Rattle.church_year.specs.declared.churches.Church.{Church}
use Rattle.church_year.specs.declared.feasts.Anchor.TheVariants.{Fixed}
use Rattle.church_year.specs.declared.feasts.Feast.{Feast}
use Rattle.church_year.specs.declared.feasts.Feast.TheVariants.{Day}
use Rattle.church_year.specs.declared.feasts.Place.{Place}
use Rattle.church_year.specs.declared.feasts.Place.TheVariants.{Days}
use Rattle.church_year.specs.Easter.{rules_of}
use Rattle.church_year.specs.Feasts.{IsFeastDate}
use Rattle.church_days.specs.DayNames.{DayName, day_names}
use Rattle.church_days.specs.Names.{FallsOn, IsFirst, IsNameOn, nameless, named, later}
use Rattle.church_days.specs.private.NameViews.{seen}

nameless_all : (church : Church) (date : Ymd) (names : List DayName)
    → ((name : DayName) → ¬ FallsOn church date name) → IsFirst church date names None
nameless_all church date [] never = nameless
nameless_all church date (name ∷ rest) never = later (never name) (nameless_all church date rest never)

pub out_of_years : (church : Church) (n : ℤ) (date : Ymd)
    → IsDateOf (rules_of church) date.year date.month date.day
    → day_number_of (rules_of church) date.year date.month date.day ≡ n
    → (date.year <ℤ pos 1) ⊎ (pos 9_999 <ℤ date.year) → IsNameOn church n None
out_of_years church n date valid day out =
    record {
      date = date;
      is_date = valid;
      of_day = day;
      first = nameless_all church date day_names
          (λ name falls. let dated = falls.1 in
          omega (arith, signed_arith, dated.some_year, dated.early, dated.is_dated.of_year, out));
    }

-- ---- a date by its numbers
pub is_same : (found date : Ymd) (same : Bool)
    → same ≡ (int_eq found.year date.year && ((found.month == date.month) && (found.day == date.day)))
    → Decides same (found ≡ date)
is_same found date same is = (
  λ e. let years = and_parts (int_eq found.year date.year) ((found.month == date.month) && (found.day == date.day))
      (sym is ∙ e) in
      let days = and_parts (found.month == date.month) (found.day == date.day) years.1 in
      ymd_same found date ((Decides-int_eq found.year date.year).0 years.0)
      ((Decides-eqb found.month date.month).0 days.0) ((Decides-eqb found.day date.day).0 days.1),
  λ e. is ∙ rw e (rw (
    (Decides-int_eq date.year date.year).1 refl,
    (Decides-eqb date.month date.month).1 refl,
    (Decides-eqb date.day date.day).1 refl,
  ) refl),
)

pub means_date : (church : Church) (year : ℕ) (name : DayName) (found date : Ymd) (same : Bool)
    → same ≡ (int_eq found.year date.year && ((found.month == date.month) && (found.day == date.day)))
    → ((d : Ymd) → (Some found ≡ Some d) ↔ IsFeastDate church year name.feast name.place d)
    → Decides same (IsFeastDate church year name.feast name.place date)
means_date church year name found date same is only = (
  λ e. (only date).0 (ap Some ((is_same found date same is).0 e)),
  λ falls. (is_same found date same is).1 (search (rules, (only date).1 falls)),
)

-- ---- one name after another
abbrev pub Row : Type 0
Row = Bor (List ℕ) × Feast × Place

-- what stands behind the end of a list
abbrev pub no_row : Row
no_row = (record { ref_ptr = (0, 0); now = [] }, Day (Fixed 0 0) (pos 0), Days (pos 0))

pub found_here : (church : Church) (year : ℕ) (date : Ymd) (rows : List Row) (at : ℕ) → at < length rows
    → IsFeastDate church year (get_or rows at no_row).1 (get_or rows at no_row).2 date
    → IsFirst church date (map seen (drop at rows)) (Some (get_or rows at no_row).0.now)
found_here church year date rows at lt falls =
    subst (λ (names : List DayName). IsFirst church date names (Some (get_or rows at no_row).0.now))
    (sym (at_drop_more (λ (xs : List Row). map seen xs) rows at no_row lt))
    (named (year, falls))

-- the feast of another year than the date's is none on this date
of_year : (church : Church) (year : ℕ) (date : Ymd) (name : DayName) → date.year ≡ pos year
    → ¬ IsFeastDate church year name.feast name.place date → ¬ FallsOn church date name
of_year church year date name own never falls =
    let same : falls.0 ≡ year = omega (arith, signed_arith, own, falls.1.is_dated.of_year) in
    never (subst (λ (y : ℕ). IsFeastDate church y name.feast name.place date) same falls.1)

pub found_later : (church : Church) (year : ℕ) (date : Ymd) (rows : List Row) (at : ℕ) (found : Option (List ℕ))
    → at < length rows → date.year ≡ pos year
    → ¬ IsFeastDate church year (get_or rows at no_row).1 (get_or rows at no_row).2 date
    → IsFirst church date (map seen (drop (at + 1) rows)) found → IsFirst church date (map seen (drop at rows)) found
found_later church year date rows at found lt own never first =
    subst (λ (names : List DayName). IsFirst church date names found)
    (sym (at_drop_more (λ (xs : List Row). map seen xs) rows at no_row lt))
    (later (of_year church year date (seen (get_or rows at no_row)) own never) first)

pub found_none : (church : Church) (date : Ymd) (rows : List Row) (at : ℕ) → length rows ≤ at
    → IsFirst church date (map seen (drop at rows)) None
found_none church date rows at end =
    subst (λ (names : List DayName). IsFirst church date names None)
    (sym (at_drop_all (λ (xs : List Row). map seen xs) rows at end)) nameless
