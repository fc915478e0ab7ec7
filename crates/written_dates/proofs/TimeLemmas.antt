-- A time of day is left out behind a date alone.
use Rattle.std.proofs.Common.{◌≡◌, ℕ, ◌+◌, ◌<◌, Bool, true, false, ◌||◌, cond, List, [], ◌∷◌, ◌++◌, length, refl, sym, ap, ◌∙◌}
use Rattle.std.specs.Prelude.{not, ◌&&◌, ◌==◌, is_some}
use Rattle.std.specs.List.{list_all}
use Rattle.std.proofs.lemmas.Bool.{and_parts}
use Rattle.std.proofs.Common.{Option, Some, None, append_assoc, get_or, take, drop, add-one}
use Rattle.std.proofs.Math.Seq.{drop-cons}
use Rattle.std.proofs.lemmas.List.{take_more}
use Rattle.date_texts.specs.declared.calendar.Calendar.{Calendar}
use Rattle.written_dates.specs.declared.meanings.Name.{Name}
use Rattle.written_dates.specs.declared.written.Choice.{Choice}
use Rattle.written_dates.specs.Signs.{has_minus, three_runs}
use Rattle.written_dates.specs.private.SignViews.{joined_front}
use Rattle.written_dates.specs.Laws.{TimesAreFound, TimesAreLeftOut, TimesStandLast, UndatedTextsStay, parts_no_time}
use Rattle.written_dates.specs.Times.{behind, begins_time, is_gap, timeless}
use Rattle.written_dates.specs.Tokens.{tokens}
use Rattle.written_dates.specs.Written.{answer, before_time, begins_at_midnight, dated_text, if_dated, is_dated, is_found, unless, unless_turned}

-- ---- a text is looked at from the left
further : (front rest : List ℕ) (c : ℕ) (b : Bool) (found : Option (List ℕ)) → b ≡ false
    → joined_front front (cond b (Some []) (behind c found)) ≡ joined_front (front ++ c ∷ []) found
further front rest c b None e = rw e refl
further front rest c b (Some x) e = rw e (ap Some (sym (append_assoc front (c ∷ []) x)))

pub goes_on : (text : List ℕ) (place : ℕ) → place < length text
    → begins_time (get_or (drop place text) 0 0) (drop 1 (drop place text)) ≡ false
    → joined_front (take place text) (timeless (drop place text))
    ≡ joined_front (take (place + 1) text) (timeless (drop (place + 1) text))
unfolding timeless
goes_on text place long never =
    let there : drop place text ≡ get_or text place 0 ∷ drop (place + 1) text = rw add-one (drop-cons text place 0 long) in
    rw (there, take_more text place 0 long)
    (further (take place text) (drop (place + 1) text) (get_or text place 0) _ (timeless (drop (place + 1) text))
    (rw there at never))

pub at_front : (text : List ℕ) → timeless text ≡ joined_front (take 0 text) (timeless (drop 0 text))
at_front text = by_found (timeless text)
  where
    by_found : (found : Option (List ℕ)) → found ≡ joined_front [] found
    by_found None = refl
    by_found (Some x) = refl

-- ---- a text that stays whole
either_second : (a b : Bool) → b ≡ true → (a || b) ≡ true
either_second true b e = refl
either_second false b e = e

of_three : (a b c : Bool) → (b || c) ≡ true → (a || b || c) ≡ true
of_three true b c e = refl
of_three false true c e = refl
of_three false false c e = e

never_before : (choice : Choice) (calendar : Calendar) (names : List Name) (text : List ℕ)
    → (has_minus (tokens 0 text) || is_dated choice calendar names text) ≡ true
    → before_time choice calendar names text ≡ None
unfolding before_time
never_before choice calendar names text h =
    ap (λ (b : Bool). unless b (timeless text))
    (of_three (not (begins_at_midnight calendar)) (has_minus (tokens 0 text)) (is_dated choice calendar names text) h)

whole_by : (choice : Choice) (calendar : Calendar) (names : List Name) (text : List ℕ)
    → (has_minus (tokens 0 text) || is_dated choice calendar names text) ≡ true
    → dated_text choice calendar names text ≡ text
unfolding dated_text
whole_by choice calendar names text h = rw (never_before choice calendar names text h) refl

pub minus_whole : (choice : Choice) (calendar : Calendar) (names : List Name) (text : List ℕ)
    → has_minus (tokens 0 text) ≡ true → dated_text choice calendar names text ≡ text
minus_whole choice calendar names text h = whole_by choice calendar names text (rw h refl)

pub dated_whole : (choice : Choice) (calendar : Calendar) (names : List Name) (text : List ℕ)
    → is_dated choice calendar names text ≡ true → dated_text choice calendar names text ≡ text
dated_whole choice calendar names text h =
    whole_by choice calendar names text
    (either_second (has_minus (tokens 0 text)) (is_dated choice calendar names text) h)

pub stands_dated : (choice : Choice) (calendar : Calendar) (names : List Name) (text : List ℕ)
    → is_some (unless_turned choice.order (three_runs (tokens 0 text))) ≡ true
    → is_dated choice calendar names text ≡ true
unfolding is_dated
stands_dated choice calendar names text h = rw h refl

pub read_dated : (choice : Choice) (calendar : Calendar) (names : List Name) (text : List ℕ)
    → is_found (answer choice calendar names text) ≡ true → is_dated choice calendar names text ≡ true
unfolding is_dated
read_dated choice calendar names text h =
    either_second (is_some (unless_turned choice.order (three_runs (tokens 0 text)))) _ h

-- ---- a text that does not
pub dated_before : (choice : Choice) (calendar : Calendar) (names : List Name) (text before : List ℕ)
    → begins_at_midnight calendar ≡ true → timeless text ≡ Some before → has_minus (tokens 0 text) ≡ false
    → is_dated choice calendar names text ≡ false → is_dated choice calendar names before ≡ true
    → dated_text choice calendar names text ≡ before
unfolding dated_text before_time
dated_before choice calendar names text before midnight is minus never is_one =
    rw (midnight, minus, never, is, is_one) refl

pub times_are_left_out : TimesAreLeftOut
times_are_left_out choice calendar names text before midnight is minus never is_one =
    rw (
      dated_before choice calendar names text before midnight is minus never is_one,
      dated_whole choice calendar names before is_one,
    ) refl

undated_by : (choice : Choice) (calendar : Calendar) (names : List Name) (text : List ℕ) (found : Option (List ℕ))
    → ((before : List ℕ) → found ≡ Some before → is_dated choice calendar names before ≡ false)
    → if_dated choice calendar names text found ≡ text
undated_by choice calendar names text None h = refl
undated_by choice calendar names text (Some before) h = rw (h before refl) refl

found_unless : (b : Bool) (found : Option (List ℕ)) (before : List ℕ) → unless b found ≡ Some before → found ≡ Some before
found_unless false found before e = e
found_unless true found before e = absurd (cc)

found_timeless : (choice : Choice) (calendar : Calendar) (names : List Name) (text before : List ℕ)
    → before_time choice calendar names text ≡ Some before → timeless text ≡ Some before
unfolding before_time
found_timeless choice calendar names text before e = found_unless _ (timeless text) before e

pub undated_texts_stay : UndatedTextsStay
unfolding dated_text
undated_texts_stay choice calendar names text h =
    undated_by choice calendar names text (before_time choice calendar names text)
    (λ before e. h before (found_timeless choice calendar names text before e))

-- ---- where the time stands
abbrev EndsWithTime : List ℕ → List ℕ → Type 0
EndsWithTime text before = (c : ℕ) × (rest : List ℕ) × (text ≡ before ++ c ∷ rest) × (begins_time c rest ≡ true)

cut_behind : (d : ℕ) (text : List ℕ) (found : Option (List ℕ)) (before : List ℕ) → behind d found ≡ Some before
    → ((x : List ℕ) → found ≡ Some x → EndsWithTime text x) → EndsWithTime (d ∷ text) before
cut_behind d text None before e h = absurd (cc)
cut_behind d text (Some x) before e h =
    let (c, rest, is, time) = h x refl in
    let own : d ∷ x ≡ before = cc in
    (c, rest, ap (λ xs. d ∷ xs) is ∙ ap (λ xs. xs ++ c ∷ rest) own, time)

cut_here : (d : ℕ) (text before : List ℕ) (b : Bool) (found : Option (List ℕ)) → begins_time d text ≡ b
    → cond b (Some []) (behind d found) ≡ Some before
    → ((x : List ℕ) → found ≡ Some x → EndsWithTime text x) → EndsWithTime (d ∷ text) before
cut_here d text before true found time e h =
    let own : [] ≡ before = cc in (d, text, ap (λ xs. xs ++ d ∷ text) own, time)
cut_here d text before false found time e h = cut_behind d text found before e h

pub times_stand_last : TimesStandLast
unfolding timeless
times_stand_last [] before e = absurd (cc)
times_stand_last (d ∷ text) before e =
    cut_here d text before (begins_time d text) (timeless text) refl e (λ x is. times_stand_last text x is)

none_begins : (c : ℕ) (rest : List ℕ) → parts_no_time c ≡ true → begins_time c rest ≡ false
none_begins c rest h = by_three (c == 84) (c == 44) (is_gap c) _ _ h
  where
    by_three : (a b d x y : Bool) → not (a || b || d) ≡ true → ((a && x) || ((b || d) && y)) ≡ false
    by_three false false false x y e = refl
    by_three true b d x y e = absurd (cc)
    by_three false true d x y e = absurd (cc)
    by_three false false true x y e = absurd (cc)

pub times_are_found : TimesAreFound
unfolding timeless
times_are_found [] rest c none time = rw time refl
times_are_found (d ∷ before) rest c none time =
    let both = and_parts (parts_no_time d) (list_all parts_no_time before) none in
    rw (none_begins d (before ++ c ∷ rest) both.0, times_are_found before rest c both.1 time) refl
