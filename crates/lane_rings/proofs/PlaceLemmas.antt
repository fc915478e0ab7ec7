-- Where entries stand, by their numbers: how often a number stands among entries and among the parts that they are
-- dealt into, that each entry stands in one place, and that the actor that has to move the next one can.
use Rattle.std.proofs.Common.{rules, ◌≡◌, ◌<◌, ◌≤◌, ◌+◌, ◌-◌, ◌++◌, ℕ, List, [], ◌∷◌, length, inl, inr, refl, sym, ap}
use Rattle.std.proofs.Common.{◌∙◌, arith, ◌%◌, ◌==◌, cond, count_by, map, eq-eqb, ne_eqb, ◌≢◌, append_assoc}
use Rattle.std.proofs.Common.{length-append, ◌⊎◌, option_to_list, Option, Some, None, slice_get}
use Rattle.std.proofs.lemmas.Bool.{cases_eq}
use Rattle.std.proofs.lemmas.List.{map-append, nil_from_length}
use Rattle.std.proofs.lemmas.List.Sums.{sum_by-append, sum_by-cons}
use Rattle.lane_rings.specs.Machine.{World, State, Actor, Reader, Converter, Writer, act, turn}
use Rattle.lane_rings.specs.Places.{Numbers, Place, EntryLane, InConverter, RowLane}
use Rattle.lane_rings.proofs.Places.{HaveNumbersFrom, KeepNumbers}
use Rattle.lane_rings.specs.Places.{Popped, EachStandsOnce, StandsOnlyAt, stripe_of, times_at, GoesOn, HasToMove}
use Rattle.lane_rings.specs.Places.{not_pushed, in_entry_lane, in_converter, in_row_lane}
use Rattle.lane_rings.specs.Schedules.{Changes}
use Rattle.lane_rings.proofs.PartLemmas.{part, part_own, part_other}
use Rattle.lane_rings.proofs.InvariantLemmas.{Kept, Steps, slice_get_rest, steps_change, all_count, popped_count}
use Rattle.lane_rings.proofs.InvariantLemmas.{stripe_count}
use Rattle.lane_rings.proofs.ActLemmas.{reader_steps, popping_converter_steps, pushing_converter_steps, writer_steps}

-- how often a number stands in a list
abbrev pub times_in : ℕ → List ℕ → ℕ
times_in k xs = count_by (λ number. number == k) xs

pub times_in_append : (k : ℕ) (xs ys : List ℕ) → times_in k (xs ++ ys) ≡ times_in k xs + times_in k ys
times_in_append k xs ys = sum_by-append (λ number. cond (number == k) 1 0) xs ys

module _ {E R : Type 0} (numbers : Numbers E R) where
  abbrev pub entry_numbers : List E → List ℕ
  entry_numbers entries = map numbers.of_entry entries

  -- how often a number stands among entries
  abbrev pub times : ℕ → List E → ℕ
  times k entries = times_in k (entry_numbers entries)

  pub times_append : (k : ℕ) (xs ys : List E) → times k (xs ++ ys) ≡ times k xs + times k ys
  times_append k xs ys = ap (times_in k) (map-append _ xs ys) ∙ times_in_append k (entry_numbers xs) (entry_numbers ys)

  times_cons : (k : ℕ) (x : E) (xs : List E)
      → times k (x ∷ xs) ≡ cond (numbers.of_entry x == k) 1 0 + times k xs
  times_cons k x xs = sum_by-cons (λ number. cond (number == k) 1 0) (numbers.of_entry x) (entry_numbers xs)

  pub times_cons_own : (k : ℕ) (x : E) (xs : List E) → numbers.of_entry x ≡ k → times k (x ∷ xs) ≡ 1 + times k xs
  times_cons_own k x xs e = rw (eq-eqb (numbers.of_entry x) k e) at (times_cons k x xs)

  times_cons_other : (k : ℕ) (x : E) (xs : List E) → (numbers.of_entry x ≡ k → ⊥) → times k (x ∷ xs) ≡ times k xs
  times_cons_other k x xs n = let e = rw (ne_eqb (numbers.of_entry x) k n) at (times_cons k x xs) in omega (arith, e)

  -- numbered entries in two pieces
  pub numbered_front : (k : ℕ) (xs ys : List E) → HaveNumbersFrom numbers k (xs ++ ys) → HaveNumbersFrom numbers k xs
  numbered_front k [] ys h = tt
  numbered_front k (x ∷ xs) ys h = (h.0, numbered_front (k + 1) xs ys h.1)

  pub numbered_rest : (k : ℕ) (xs ys : List E) → HaveNumbersFrom numbers k (xs ++ ys)
      → HaveNumbersFrom numbers (k + length xs) ys
  numbered_rest k [] ys h = let e : k + 0 ≡ k = omega arith in rw e h
  numbered_rest k (x ∷ xs) ys h = grind (arith, numbered_rest (k + 1) xs ys h.1)

  -- a number below the first stands nowhere, and each number from the first to the last stands once
  times_below : (k first : ℕ) (xs : List E) → HaveNumbersFrom numbers first xs → k < first → times k xs ≡ 0
  times_below k first [] h l = refl
  times_below k first (x ∷ xs) h l = grind (arith, times_below k (first + 1) xs h.1 (omega arith))

  pub times_once : (k first : ℕ) (xs : List E) → HaveNumbersFrom numbers first xs → first ≤ k → k < first + length xs
      → times k xs ≡ 1
  times_once k first [] h low high = absurd (omega arith)
  times_once k first (x ∷ xs) h low high =
      elim (cases_eq first k) [
        | inl e ↦
            omega (arith, times_cons_own k x xs (h.0 ∙ e), times_below k (first + 1) xs h.1 (omega (arith, e)))
        | inr n ↦
            let other : numbers.of_entry x ≡ k → ⊥ = λ e. n (sym h.0 ∙ e) in
            let more : first < k = grind (arith, n) in
            times_cons_other k x xs other ∙ times_once k (first + 1) xs h.1 (omega arith) (omega arith)
      ]

  -- a number stands in its own stripe's part as often as among all
  pub times_own_part : (c i k d : ℕ) (xs : List E) → HaveNumbersFrom numbers (d + 1) xs → 1 ≤ k → (k - 1) % c ≡ i
      → times k (part c i d xs) ≡ times k xs
  times_own_part c i k d [] h some own = refl
  times_own_part c i k d (x ∷ xs) h some own =
      let rest = times_own_part c i k (d + 1) xs h.1 some own in
      search (rules, cases_eq, part_own, times_cons, part_other, times_cons_other, rest)

  -- and in no other part
  pub times_other_part : (c i k d : ℕ) (xs : List E) → HaveNumbersFrom numbers (d + 1) xs → 1 ≤ k
      → ((k - 1) % c ≡ i → ⊥) → times k (part c i d xs) ≡ 0
  times_other_part c i k d [] h some n = refl
  times_other_part c i k d (x ∷ xs) h some n = grind (arith, times_other_part c i k (d + 1) xs h.1 some n)

  pub keep_front : (w : World E R) (xs ys : List E) → KeepNumbers numbers w (xs ++ ys) → KeepNumbers numbers w xs
  keep_front w [] ys h = tt
  keep_front w (x ∷ xs) ys h = (h.0, keep_front w xs ys h.1)

  pub keep_rest : (w : World E R) (xs ys : List E) → KeepNumbers numbers w (xs ++ ys) → KeepNumbers numbers w ys
  keep_rest w [] ys h = h
  keep_rest w (x ∷ xs) ys h = keep_rest w xs ys h.1

  pub keep_part : (w : World E R) (c i d : ℕ) (xs : List E) → KeepNumbers numbers w xs
      → KeepNumbers numbers w (part c i d xs)
  keep_part w c i d [] h = tt
  keep_part w c i d (x ∷ xs) h = grind (arith, cases_eq, part_own, part_other, keep_part w c i (d + 1) xs h.1)

  pub row_numbers : (w : World E R) (xs : List E) → KeepNumbers numbers w xs
      → map numbers.of_row (map w.row_of xs) ≡ entry_numbers xs
  row_numbers w [] h = refl
  row_numbers w (x ∷ xs) h = rw (h.0, row_numbers w xs h.1) refl

-- ---- each entry that is pushed stands in one place

-- entry k stands once in stripe i or among those popped, and in no other stripe
pub record StandsIn {E R : Type 0} (numbers : Numbers E R) (s : State E R) (k i : ℕ) : Type 0 where
  pub own :
      times_at numbers s k (EntryLane i) + times_at numbers s k (InConverter i) + times_at numbers s k (RowLane i)
      + times_at numbers s k Popped
      ≡ 1
  pub others : (j : ℕ) → (j ≡ i → ⊥)
      → times_at numbers s k (EntryLane j) + times_at numbers s k (InConverter j) + times_at numbers s k (RowLane j) ≡ 0

module _ {E R : Type 0} (numbers : Numbers E R) (s : State E R) (k i : ℕ) (h : StandsIn numbers s k i) where
  -- it stands at this place, and at no other one of stripe i, nor among those popped
  pub only_at : (at : Place) → times_at numbers s k at ≡ 1 → (EntryLane i ≢ at → times_at numbers s k (EntryLane i) ≡ 0)
      → (InConverter i ≢ at → times_at numbers s k (InConverter i) ≡ 0)
      → (RowLane i ≢ at → times_at numbers s k (RowLane i) ≡ 0) → (Popped ≢ at → times_at numbers s k Popped ≡ 0)
      → StandsOnlyAt numbers s k at
  only_at at once entry_lane converter row_lane popped = search (rules, cases_eq)

one_of_four : (a b c d : ℕ) → a + b + c + d ≡ 1 → (0 < a) ⊎ ((0 < b) ⊎ ((0 < c) ⊎ (0 < d)))
one_of_four a b c d h = grind arith

module _ {E R : Type 0} (numbers : Numbers E R) (w : World E R) (s : State E R) (v : Kept w s)
    (numbered : HaveNumbersFrom numbers 1 w.entries) (same_numbers : KeepNumbers numbers w w.entries) where
  all_same_numbers : KeepNumbers numbers w (v.done ++ (v.between ++ v.left))
  all_same_numbers = rw v.entries at same_numbers

  -- the numbers of the rows are those of their entries
  popped_times : (k : ℕ) → times_at numbers s k Popped ≡ times numbers k v.done
  popped_times k = search (rules, row_numbers, keep_front, all_same_numbers)

  pub row_lane_times : (k i : ℕ) → times_at numbers s k (RowLane i) ≡ times numbers k (v.stripes i).converted
  row_lane_times k i = search (rules, keep_front, keep_rest, all_same_numbers, keep_part, times_in, row_numbers)

  -- what stands in a stripe is the stripe's part of what is between the ends
  stripe_times : (k i : ℕ)
      → times_at numbers s k (EntryLane i) + times_at numbers s k (InConverter i) + times_at numbers s k (RowLane i)
      ≡ times numbers k (part w.converters i (length v.done) v.between)
  stripe_times k i =
      let h = v.stripes i in
      let hand = option_to_list (s.stripes i).hand in
      let lane = (s.stripes i).entry_lane in
      let rows = row_lane_times k i in
      let all : times numbers k (h.converted ++ (hand ++ lane))
      ≡ times numbers k (part w.converters i (length v.done) v.between) =
      ap (times numbers k) h.all in
      omega (arith, rows, all, times_append numbers k h.converted (hand ++ lane), times_append numbers k hand lane)

  pub stands_in : (k : ℕ) → 1 ≤ k → k ≤ s.pushed → StandsIn numbers s k (stripe_of w k)
  stands_in k some pushed =
      let i = stripe_of w k in
      let pushed_entries = v.done ++ v.between in
      let from_one : HaveNumbersFrom numbers 1 (v.done ++ (v.between ++ v.left)) = rw v.entries at numbered in
      let here : HaveNumbersFrom numbers (length v.done + 1) (v.between ++ v.left) =
      let e : length v.done + 1 ≡ 1 + length v.done = omega arith in
      rw e (numbered_rest numbers 1 v.done (v.between ++ v.left) from_one) in
      let between_numbered = numbered_front numbers (length v.done + 1) v.between v.left here in
      let front_numbered : HaveNumbersFrom numbers 1 pushed_entries =
      numbered_front numbers 1 pushed_entries v.left (rw append_assoc from_one) in
      let in_front : k < 1 + length pushed_entries =
      omega (arith, pushed, v.pushed, length-append v.done v.between) in
      let one = times_once numbers k 1 pushed_entries front_numbered some in_front in
      let own = times_own_part numbers w.converters i k (length v.done) v.between between_numbered some refl in
      record {
        own = omega (arith, popped_times k, stripe_times k i, own, one, times_append numbers k v.done v.between);
        others = λ j n.
            stripe_times k j
            ∙ times_other_part numbers w.converters j k (length v.done) v.between between_numbered some
            (λ e. n (sym e));
      }

  pub each_stands_once : EachStandsOnce numbers w s
  each_stands_once k some pushed =
      let i = stripe_of w k in
      let h = stands_in k some pushed in
      let times = times_at numbers s k in
      elim (one_of_four (times (EntryLane i)) (times (InConverter i)) (times (RowLane i)) (times Popped) h.own) [
        | inl a ↦ (EntryLane i, (0, omega arith, refl), search (rules, only_at numbers s k i h))
        | inr (inl b) ↦ (InConverter i, (1, omega arith, refl), search (rules, only_at numbers s k i h))
        | inr (inr (inl c)) ↦ (RowLane i, (2, omega arith, refl), search (rules, only_at numbers s k i h))
        | inr (inr (inr d)) ↦ (Popped, (3, omega arith, refl), search (rules, only_at numbers s k i h))
      ]

-- ---- the actor that has to move the entry of the next row can

not_empty : {X : Type 0} (xs : List X) → 0 < length xs → (x : X) × (more : List X) × (xs ≡ x ∷ more)
not_empty [] h = absurd (omega arith)
not_empty (x ∷ xs) h = (x, xs, refl)

module _ {E R : Type 0} (numbers : Numbers E R) (w : World E R) (some_converters : 0 < w.converters)
    (some_room : 0 < w.ring) (s : State E R) (v : Kept w s) (numbered : HaveNumbersFrom numbers 1 w.entries)
    (same_numbers : KeepNumbers numbers w w.entries) where
  -- the entry of the next row, which goes through the stripe whose turn it is
  abbrev next : ℕ
  next = length s.popped + 1

  abbrev its_stripe : ℕ
  its_stripe = turn w (length s.popped)

  next_stripe : stripe_of w next ≡ its_stripe
  next_stripe = ap (turn w) (omega arith)

  -- there is an actor that has to move it, and can
  abbrev OneCan : Type 0
  OneCan = (actor : Actor) × HasToMove numbers w s next actor × Changes w actor s

  go_on : (a : Actor) → HasToMove numbers w s next a → Steps w s (act w a s) → OneCan
  go_on a move steps = (a, move, steps_change w s (act w a s) steps)

  -- it is not yet pushed: then no entry stands between the ends, and its lane has room
  reader_goes_on : (x : E) → slice_get w.entries (length s.popped) ≡ Some x → length v.between ≡ 0 → OneCan
  reader_goes_on x next_is none =
      let c = w.converters in
      let i = turn w s.pushed in
      let here : s.pushed ≡ length s.popped =
      omega (arith, v.pushed, none, popped_count w some_converters s v) in
      let at : slice_get w.entries s.pushed ≡ Some x = ap (slice_get w.entries) here ∙ next_is in
      let empty : length (part c i (length v.done) v.between) ≡ 0 =
      ap (λ (l : List E). length (part c i (length v.done) l)) (nil_from_length v.between none) in
      let room : length (s.stripes i).entry_lane < w.ring =
      omega (arith, some_room, stripe_count w some_converters s v i, empty) in
      go_on Reader (not_pushed (omega (arith, here))) (reader_steps w some_converters s v x at room)

  -- it is the first of its stripe
  first_goes_on : (x : E) (rest converted : List E) (hand : Option E) (lane : List E) → numbers.of_entry x ≡ next
      → StandsIn numbers s next its_stripe → (v.stripes its_stripe).converted ≡ converted
      → (s.stripes its_stripe).hand ≡ hand → (s.stripes its_stripe).entry_lane ≡ lane
      → converted ++ (option_to_list hand ++ lane) ≡ x ∷ rest → OneCan
  first_goes_on x rest (y ∷ converted) hand lane number stands converted_is hand_is lane_is e =
      let own : numbers.of_entry y ≡ next = cc in
      let some : 0 < times_at numbers s next (RowLane its_stripe) =
      rw (row_lane_times numbers w s v numbered same_numbers next its_stripe, converted_is)
      (omega (arith, times_cons_own numbers next y converted own)) in
      go_on Writer (in_row_lane (rw next_stripe (search (rules, only_at numbers s next its_stripe stands))))
      (writer_steps w some_converters s v (w.row_of y) (map w.row_of converted)
      (rw converted_is at (v.stripes its_stripe).rows))
  first_goes_on x rest [] (Some y) lane number stands converted_is hand_is lane_is e =
      let own : numbers.of_entry y ≡ next = cc in
      let some : 0 < times_at numbers s next (InConverter its_stripe) =
      rw hand_is (omega (arith, times_cons_own numbers next y [] own)) in
      let none : length (s.stripes its_stripe).row_lane ≡ 0 =
      ap length (rw converted_is at (v.stripes its_stripe).rows) in
      go_on (Converter its_stripe)
      (rw (← next_stripe) (in_converter (rw next_stripe (search (rules, only_at numbers s next its_stripe stands)))))
      (pushing_converter_steps w some_converters s v its_stripe y hand_is (omega (arith, some_room, none)))
  first_goes_on x rest [] None [] number stands converted_is hand_is lane_is e = cc e
  first_goes_on x rest [] None (y ∷ lane) number stands converted_is hand_is lane_is e =
      let own : numbers.of_entry y ≡ next = cc in
      let some : 0 < times_at numbers s next (EntryLane its_stripe) =
      rw lane_is (omega (arith, times_cons_own numbers next y lane own)) in
      go_on (Converter its_stripe)
      (rw (← next_stripe) (in_entry_lane (rw next_stripe (search (rules, only_at numbers s next its_stripe stands)))))
      (popping_converter_steps w some_converters s v its_stripe y lane lane_is hand_is)

  next_is : slice_get w.entries (length s.popped) ≡ slice_get (v.between ++ v.left) 0
  next_is = grind (arith, v.entries, popped_count w some_converters s v, slice_get_rest v.done (v.between ++ v.left))

  by_between : (between : List E) → v.between ≡ between → GoesOn numbers w s
  by_between [] e more_rows =
      let none : length v.between ≡ 0 = ap length e in
      let (x, more, left_is) =
      not_empty v.left (omega (arith, none, popped_count w some_converters s v, all_count w some_converters s v)) in
      reader_goes_on x (next_is ∙ simp (e, left_is)) none
  by_between (x ∷ more) e more_rows =
      let c = w.converters in
      let d = length v.done in
      let popped = popped_count w some_converters s v in
      let first : part c its_stripe d v.between ≡ x ∷ part c its_stripe (d + 1) more =
      ap (part c its_stripe d) e ∙ part_own c its_stripe d x more (ap (λ (n : ℕ). n % c) (sym popped)) in
      let from_one : HaveNumbersFrom numbers 1 (v.done ++ (x ∷ (more ++ v.left))) =
      rw e at (rw v.entries at numbered) in
      let number : numbers.of_entry x ≡ next =
      omega (arith, popped, (numbered_rest numbers 1 v.done (x ∷ (more ++ v.left)) from_one).0) in
      let pushed : next ≤ s.pushed = omega (arith, v.pushed, popped, ap length e) in
      let stands : StandsIn numbers s next its_stripe =
      rw next_stripe at (stands_in numbers w s v numbered same_numbers next (omega arith) pushed) in
      first_goes_on x _ _ _ _ number stands refl refl refl ((v.stripes its_stripe).all ∙ first)

  pub goes_on : GoesOn numbers w s
  goes_on = by_between v.between refl
