-- More than sixteen items say nothing.
use Rattle.std.proofs.Common.{◌≡◌, ℕ, ◌≤◌, ◌<◌, true, false, List, length, refl, ap, arith}
use Rattle.std.proofs.Common.{Option, Some, None, nat_le}
use Rattle.std.proofs.lemmas.Bool.Decides.{nat_tests}
use Rattle.date_texts.specs.declared.calendar.Calendar.{Calendar}
use Rattle.written_dates.specs.declared.items.Item.{Item}
use Rattle.written_dates.specs.declared.meanings.Name.{Name}
use Rattle.written_dates.specs.Sums.{found_items}
use Rattle.date_spans.specs.Sides.{if_few, words_in}

few : (found : Option (List Item)) (xs : List Item) → found ≡ Some xs → length xs ≤ 16 → if_few found ≡ Some xs
few None xs e h = cc
few (Some ys) xs e h =
    let same : ys ≡ xs = cc in
    let yes : nat_le (length ys) 16 ≡ true = grind (arith, nat_tests) in
    rw yes (ap Some same)

many : (found : Option (List Item)) → ((xs : List Item) → found ≡ Some xs → 16 < length xs) → if_few found ≡ None
many None h = refl
many (Some xs) h =
    let over : 16 < length xs = h xs refl in
    let no : nat_le (length xs) 16 ≡ false = grind (arith, nat_tests) in
    rw no refl

pub few_items : (calendar : Calendar) (names : List Name) (text : List ℕ) (xs : List Item)
    → found_items calendar names text ≡ Some xs → length xs ≤ 16 → words_in calendar names text ≡ Some xs
unfolding words_in
few_items calendar names text xs e h = few _ xs e h

pub many_items : (calendar : Calendar) (names : List Name) (text : List ℕ)
    → ((xs : List Item) → found_items calendar names text ≡ Some xs → 16 < length xs)
    → words_in calendar names text ≡ None
unfolding words_in
many_items calendar names text h = many _ h
