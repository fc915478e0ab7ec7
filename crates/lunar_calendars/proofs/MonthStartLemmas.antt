-- Where the months of a Hebrew year begin, and which one a place in the year lies in.
use Rattle.std.proofs.Common.{◌≡◌, ℕ, ◌+◌, ◌-◌, ◌/◌, ◌<◌, ◌≤◌, ◌==◌, ◌&&◌, Bool, true, false, List, length, IsTrue}
use Rattle.std.proofs.Common.{refl, arith, inl, inr, take, get_or, leb, nat_le, slice_index}
use Rattle.std.specs.List.{list_all, range_with_len}
use Rattle.std.proofs.lemmas.Bool.Decides.{nat_tests}
use Rattle.std.proofs.lemmas.List.FromFn.{get_or-range_with_len, length-range_with_len}
use Rattle.std.proofs.lemmas.List.Sums.{AllPass-from_list_all}
use mir.Val.{bool_byte}
use Rattle.day_numbers.specs.declared.rules.Month.{Month}
use Rattle.day_numbers.specs.Rules.{total_days, days_of_month, days_before_month}
use Rattle.lunar_calendars.specs.Hebrew.{months_by_length}
use Rattle.lunar_calendars.specs.private.Hebrew.{IsYearLength}
use Rattle.lunar_calendars.proofs.YearLengthLemmas.{three}

-- the month of an index, counted from 0
abbrev pub month_of : List Month → ℕ → Month
month_of ms i = get_or ms i (record { number = 0; days = 0 })

-- the index of the month of a place, where a test finds which of two it is by the start of the later
abbrev later_by : ℕ → ℕ → ℕ
later_by start place = place / 30 + bool_byte (leb start place)

-- what the number of the month and the day have to meet
pub record IsPlacedIn (ms : List Month) (place start number : ℕ) : Type 0 where
  pub after : start ≤ place
  pub near : place < start + 30
  pub last : place - start + 1 ≤ days_of_month ms number
  pub sum : days_before_month ms number + (place - start + 1) ≡ place + 1
  pub small : number ≤ 99

-- a test of that, of the month of this index and its start
abbrev is_month_at : List Month → ℕ → ℕ → ℕ → ℕ → Bool
is_month_at ms place index start number =
    nat_le (place / 30 + 1) (length ms) && nat_le index (length ms) && nat_le start place
    && nat_le (place + 1) (start + 30) && nat_le (place - start + 1) (days_of_month ms number)
    && (days_before_month ms number + (place - start + 1) == place + 1) && nat_le number 99

unfoldable is_placed : List Month → ℕ → Bool
is_placed ms place =
    let index = later_by (total_days (take (place / 30 + 1) ms)) place in
    is_month_at ms place index (total_days (take index ms)) (month_of ms index).number

-- and each place in a year of one of the six lengths passes it, which is computed
all_placed : (leap : Bool) (days : ℕ) → IsYearLength leap days
    → IsTrue (list_all (is_placed (months_by_length leap days)) (range_with_len 0 days))
unfolding is_placed
all_placed false days h =
    elim (three 353 days h.0 h.1) [ inl e ↦ rw e refl | inr e ↦ elim e [ inl f ↦ rw f refl | inr f ↦ rw f refl ] ]
all_placed true days h =
    elim (three 383 days h.0 h.1) [ inl e ↦ rw e refl | inr e ↦ elim e [ inl f ↦ rw f refl | inr f ↦ rw f refl ] ]

-- the index of the month of a place
abbrev pub index_of : List ℕ → ℕ → ℕ
index_of starts place = later_by (slice_index starts (place / 30 + 1)) place

placed : (ms : List Month) (place : ℕ) (starts : List ℕ) → IsTrue (is_placed ms place)
    → ((i : ℕ) → i ≤ length ms → slice_index starts i ≡ total_days (take i ms))
    → IsPlacedIn ms place (slice_index starts (index_of starts place)) (month_of ms (index_of starts place)).number
unfolding is_placed
placed ms place starts at starts_are =
    let first = starts_are (place / 30 + 1) (grind (arith, nat_tests)) in
    let own = starts_are (index_of starts place) (rw first (grind (arith, nat_tests))) in
    rw (own, first) (grind (arith, nat_tests))

-- that month, in a year with so many days
pub placed_by : (leap : Bool) (days : ℕ) (starts : List ℕ) (place : ℕ) → IsYearLength leap days → place < days
    → ((i : ℕ) → i ≤ length (months_by_length leap days)
    → slice_index starts i ≡ total_days (take i (months_by_length leap days)))
    → IsPlacedIn (months_by_length leap days) place (slice_index starts (index_of starts place))
    (month_of (months_by_length leap days) (index_of starts place)).number
placed_by leap days starts place lengths inside =
    let same : 0 + place ≡ place = omega arith in
    placed (months_by_length leap days) place starts (rw (get_or-range_with_len, same) at
    (AllPass-from_list_all (is_placed (months_by_length leap days)) (range_with_len 0 days)
    (all_placed leap days lengths) place 0 (omega (arith, length-range_with_len 0 days))))
