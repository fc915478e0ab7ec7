-- What a day is called as a function.
use Rattle.std.proofs.Common.{◌≡◌, ◌↔◌, ◌⊎◌, ◌∙◌, ◌+◌, ◌-◌, ℕ, zero, suc, ◌<◌, ◌≤◌, ℤ, pos, ◌<ℤ◌, Bool, true, false, ◌&&◌, ◌==◌, refl, sym}
use Rattle.std.proofs.Common.{ap, arith, List, Option, Some, None, length, map, drop, get_or}
use Rattle.std.proofs.lemmas.Bool.Decides.{Decides-int_eq}
use Rattle.std.proofs.lemmas.List.{at_drop_all, at_drop_more}
use Rattle.std.specs.Ordering.{int_eq}
use Rattle.day_numbers.proofs.SignedArithmeticLemmas.{signed_arith}
use Rattle.day_numbers.specs.Days.{IsDayNumber}
use Rattle.day_numbers.specs.Rules.{IsDateOf, day_number_of}
use Rattle.day_numbers.specs.declared.ymd.Ymd.{Ymd}
use Rattle.church_year.specs.declared.churches.Church.{Church}
use Rattle.church_year.specs.Easter.{rules_of}
use Rattle.church_year.specs.FeastDates.{date_in, feast_date_in}
use Rattle.church_year.specs.Feasts.{IsFeastDate}
use Rattle.church_year.proofs.FeastDateLemmas.{date_found, none_in_other}
use Rattle.church_days.specs.Computed.{church_name, first_name, means, name_until, or_earlier}
use Rattle.church_days.specs.DayNames.{DayName, day_names}
use Rattle.church_days.specs.private.NameViews.{seen}
use Rattle.church_days.proofs.NameLemmas.{Row, no_row}

-- ---- one name
pub means_found : (church : Church) (year : ℕ) (name : DayName) (found date : Ymd) (same : Bool)
    → same ≡ (int_eq found.year date.year && ((found.month == date.month) && (found.day == date.day)))
    → ((d : Ymd) → (Some found ≡ Some d) ↔ IsFeastDate church year name.feast name.place d)
    → Some (found.month, found.day) ≡ feast_date_in church year name.feast name.place → date.year ≡ pos year
    → same ≡ means church year (date.month, date.day) name
means_found church year name found date same is only computed own =
    let years : int_eq found.year date.year ≡ true = (Decides-int_eq found.year date.year).1
    (((only found).0 refl).is_dated.of_year ∙ sym own) in
    rw (is, years, sym computed) refl

-- ---- the first of some names
pub first_here : (church : Church) (year : ℕ) (date : ℕ × ℕ) (rows : List Row) (at : ℕ) → at < length rows
    → means church year date (seen (get_or rows at no_row)) ≡ true
    → first_name church year date (map seen (drop at rows)) ≡ Some (get_or rows at no_row).0.now
unfolding first_name
first_here church year date rows at lt is =
    at_drop_more (λ (xs : List Row). first_name church year date (map seen xs)) rows at no_row lt ∙ rw is refl

pub first_later : (church : Church) (year : ℕ) (date : ℕ × ℕ) (rows : List Row) (at : ℕ) → at < length rows
    → means church year date (seen (get_or rows at no_row)) ≡ false
    → first_name church year date (map seen (drop at rows)) ≡ first_name church year date (map seen (drop (at + 1) rows))
unfolding first_name
first_later church year date rows at lt is =
    at_drop_more (λ (xs : List Row). first_name church year date (map seen xs)) rows at no_row lt ∙ rw is refl

pub first_none : (church : Church) (year : ℕ) (date : ℕ × ℕ) (rows : List Row) (at : ℕ) → length rows ≤ at
    → first_name church year date (map seen (drop at rows)) ≡ None
unfolding first_name
first_none church year date rows at end =
    at_drop_all (λ (xs : List Row). first_name church year date (map seen xs)) rows at end

-- ---- the year
earlier : (found : Option (ℕ × ℕ)) (name : ℕ × ℕ → Option (List ℕ)) (rest : Option (List ℕ)) → found ≡ None
    → or_earlier found name rest ≡ rest
earlier None name rest e = refl
earlier (Some date) name rest e = absurd (cc)

at_year : (church : Church) (n : ℤ) (date : Ymd) (year : ℕ) → IsDateOf (rules_of church) date.year date.month date.day
    → day_number_of (rules_of church) date.year date.month date.day ≡ n → date.year ≡ pos year → IsDayNumber n
    → 1 ≤ year → name_until church n year ≡ first_name church year (date.month, date.day) day_names
unfolding name_until
at_year church n date zero valid day own range some = absurd (omega (arith, some))
at_year church n date (suc y) valid day own range some =
    ap (λ (o : Option (ℕ × ℕ)). or_earlier o (λ d. first_name church (suc y) d day_names) (name_until church n y))
    (sym (date_found church (suc y) n date valid day own range))

later_year : (church : Church) (n : ℤ) (date : Ymd) (k : ℕ) → IsDateOf (rules_of church) date.year date.month date.day
    → day_number_of (rules_of church) date.year date.month date.day ≡ n → (date.year ≡ pos (suc k) → ⊥)
    → name_until church n (suc k) ≡ name_until church n k
unfolding name_until
later_year church n date k valid day other =
    earlier (date_in church (suc k) n) (λ d. first_name church (suc k) d day_names) (name_until church n k)
    (none_in_other church (suc k) n date (omega arith) valid day other)

climb : (church : Church) (n : ℤ) (date : Ymd) (year more k : ℕ)
    → IsDateOf (rules_of church) date.year date.month date.day
    → day_number_of (rules_of church) date.year date.month date.day ≡ n → date.year ≡ pos year → k ≡ year + more
    → name_until church n k ≡ name_until church n year
climb church n date year zero k valid day own e =
    let same : k ≡ year = omega (arith, e) in ap (λ (y : ℕ). name_until church n y) same
climb church n date year (suc more) zero valid day own e = absurd (omega (arith, e))
climb church n date year (suc more) (suc k) valid day own e =
    later_year church n date k valid day (λ same. omega (arith, signed_arith, same, own, e))
    ∙ climb church n date year more k valid day own (omega (arith, e))

pub named_in_year : (church : Church) (n : ℤ) (date : Ymd) (year : ℕ)
    → IsDateOf (rules_of church) date.year date.month date.day
    → day_number_of (rules_of church) date.year date.month date.day ≡ n → date.year ≡ pos year → IsDayNumber n
    → 1 ≤ year → year ≤ 9_999 → church_name church n ≡ first_name church year (date.month, date.day) day_names
unfolding church_name
named_in_year church n date year valid day own range some few =
    climb church n date year (9_999 - year) 9_999 valid day own (omega (arith, few))
    ∙ at_year church n date year valid day own range some

none_until : (church : Church) (n : ℤ) (date : Ymd) (k : ℕ) → IsDateOf (rules_of church) date.year date.month date.day
    → day_number_of (rules_of church) date.year date.month date.day ≡ n
    → ((year : ℕ) → 1 ≤ year → year ≤ k → date.year ≡ pos year → ⊥) → name_until church n k ≡ None
unfolding name_until
none_until church n date zero valid day never = refl
none_until church n date (suc k) valid day never =
    later_year church n date k valid day (λ e. never (suc k) (omega arith) (omega arith) e)
    ∙ none_until church n date k valid day (λ y some le e. never y some (omega (arith, le)) e)

pub nameless_out : (church : Church) (n : ℤ) (date : Ymd) → IsDateOf (rules_of church) date.year date.month date.day
    → day_number_of (rules_of church) date.year date.month date.day ≡ n
    → (date.year <ℤ pos 1) ⊎ (pos 9_999 <ℤ date.year) → church_name church n ≡ None
unfolding church_name
nameless_out church n date valid day out =
    none_until church n date 9_999 valid day (λ y some le e. omega (arith, signed_arith, some, le, e, out))
