-- More than five items say nothing.
use Rattle.std.proofs.Common.{◌≡◌, ℕ, ◌+◌, ◌<◌, ◌≤◌, Bool, true, false, List, [], ◌∷◌, cond, length, refl, sym, arith}
use Rattle.std.proofs.Common.{Option, Some, None}
use Rattle.written_dates.specs.declared.items.Item.{Item}
use Rattle.written_dates.specs.declared.items.Item.TheVariants.{Number, Month, Mark, Weekday, DecadeDay}
use Rattle.written_dates.specs.declared.meanings.Name.{Name}
use Rattle.written_dates.specs.declared.rules.Order.{Order}
use Rattle.written_dates.specs.declared.calendars.Form.{Form}
use Rattle.written_dates.specs.declared.calendars.Form.TheVariants as forms
use Rattle.written_dates.specs.declared.written.Answer.{Answer}
use Rattle.written_dates.specs.declared.written.Answer.TheVariants.{Stays}
use Rattle.written_dates.specs.declared.written.Choice.{Choice}
use Rattle.written_dates.specs.Tokens.{Piece, tokens}
use Rattle.written_dates.specs.Rules.{plain_reading, beside_weekday, weekday_in_month, civil_reading, roman_reading}
use Rattle.written_dates.proofs.FeastRuleLemmas.{long_naming}
use Rattle.written_dates.specs.declared.stops.Stop.TheVariants as stops
use Rattle.written_dates.specs.Stops.{missing, missing_in}
use Rattle.date_texts.specs.declared.calendar.Calendar.{Calendar}
use Rattle.written_dates.specs.Calendars.{form}
use Rattle.written_dates.specs.Sums.{found_items}
use Rattle.written_dates.specs.Written.{answer, answer_by, items_answer, reading_by}

beside_rest : (found : List Item) → length found ≤ length (beside_weekday found) + 1
beside_rest (Weekday w ∷ rest) = omega arith
beside_rest (DecadeDay n ∷ rest) = omega arith
beside_rest (a ∷ b ∷ c ∷ Weekday w ∷ []) = omega arith
beside_rest (a ∷ b ∷ c ∷ DecadeDay n ∷ []) = omega arith
beside_rest found = omega arith

long_plain : (pieces : List Piece) (order : Order) (found : List Item) → 3 < length found
    → plain_reading pieces order found ≡ None
long_plain pieces order (Number a ∷ Month m ∷ Number c ∷ []) h = absurd (omega arith)
long_plain pieces order (Month m ∷ Number a ∷ Number c ∷ []) h = absurd (omega arith)
long_plain pieces order (Number a ∷ Number b ∷ Number c ∷ []) h = absurd (omega arith)
long_plain pieces order _ h = refl

long_in_month : (found : List Item) → 4 < length found → weekday_in_month found ≡ None
long_in_month (Number n ∷ Weekday w ∷ Month m ∷ Number y ∷ []) h = absurd (omega arith)
long_in_month _ h = refl

many_civil : (pieces : List Piece) (order : Order) (found : List Item) → 5 < length found
    → civil_reading pieces order found ≡ None
many_civil pieces order found h =
    rw (
      long_plain pieces order (beside_weekday found) (omega (arith, beside_rest found)),
      long_in_month found (omega arith),
      long_naming found h,
    ) refl

many_roman : (charters : Bool) (found : List Item) → 5 < length found → roman_reading charters found ≡ None
many_roman charters (Number n ∷ Mark k ∷ Month m ∷ Number y ∷ []) h = absurd (omega arith)
many_roman charters (Mark k ∷ Month m ∷ Number y ∷ []) h = absurd (omega arith)
many_roman charters _ h = refl

many : (form : Form) (choice : Choice) (pieces : List Piece) (found : List Item) → 5 < length found
    → reading_by form choice pieces found ≡ None
many forms.Civil choice pieces found h = many_civil pieces choice.order found h
many forms.Roman choice pieces found h = many_roman choice.charters found h
many forms.Other choice pieces found h = refl

many_stay : (choice : Choice) (calendar : Calendar) (pieces : List Piece) (found : List Item) → 5 < length found
    → items_answer choice calendar pieces found ≡ Stays
many_stay choice calendar pieces found h = rw (many (form calendar) choice pieces found h) refl

stays_by : (found : Option (List Item)) (say : List Item → Answer)
    → ((xs : List Item) → found ≡ Some xs → say xs ≡ Stays) → answer_by found say ≡ Stays
stays_by None say h = refl
stays_by (Some xs) say h = h xs refl

stays_either : (b : Bool) (x : Answer) → x ≡ Stays → Stays ≡ cond b Stays x
stays_either true x h = refl
stays_either false x h = sym h

pub no_answer : (choice : Choice) (calendar : Calendar) (names : List Name) (text : List ℕ)
    → ((xs : List Item) → found_items calendar names text ≡ Some xs → 5 < length xs)
    → Stays ≡ answer choice calendar names text
unfolding answer
no_answer choice calendar names text h =
    let pieces = tokens 0 text in
    stays_either _ _ (stays_by (found_items calendar names text) (items_answer choice calendar pieces)
    (λ xs e. many_stay choice calendar pieces xs (h xs e)))

other_none : (f : Form) (choice : Choice) (pieces : List Piece) → f ≡ forms.Other
    → (found : List Item) → reading_by f choice pieces found ≡ None
other_none forms.Other choice pieces h found = refl
other_none forms.Civil choice pieces h found = cc
other_none forms.Roman choice pieces h found = cc

-- a date that is written otherwise says nothing
pub never_read : (choice : Choice) (calendar : Calendar) (names : List Name) (text : List ℕ)
    → form calendar ≡ forms.Other → answer choice calendar names text ≡ Stays
unfolding answer
never_read choice calendar names text other =
    let pieces = tokens 0 text in
    sym (stays_either _ _ (stays_by (found_items calendar names text) (items_answer choice calendar pieces)
    (λ xs e. rw (other_none (form calendar) choice pieces other xs) refl)))

long_missing : (found : List Item) → 2 < length found → stops.NoDate ≡ missing found
long_missing (Month m ∷ Number n ∷ []) h = absurd (omega arith)
long_missing (Number n ∷ Month m ∷ []) h = absurd (omega arith)
long_missing (Number n ∷ []) h = absurd (omega arith)
long_missing _ h = refl

-- and nothing is missing in them
pub many_missing : (found : Option (List Item)) → ((xs : List Item) → found ≡ Some xs → 5 < length xs)
    → stops.NoDate ≡ missing_in found
many_missing None h = refl
many_missing (Some xs) h = long_missing (beside_weekday xs) (omega (arith, h xs refl, beside_rest xs))
