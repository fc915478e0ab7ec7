-- Targets have their own ranks, and ranks are those of one list of targets.
use Rattle.std.proofs.Common.{◌≡◌, ℕ, suc, ◌+◌, ◌-◌, ◌^◌, ◌<◌, ◌≤◌, Bool, true, ◌&&◌, ◌↔◌, List, [], ◌∷◌, length}
use Rattle.std.proofs.Common.{get_or, take, drop, set, ◌==◌, slice_get, sym, refl, ap, ◌∙◌, arith, w64}
use Rattle.register_records.proofs.Common.{WORD_LEN, all_targets, Target, Haab, have_one_name, rank_of, ranks_in}
use Rattle.register_records.proofs.Common.{take-add, and_parts, passes_at_first, position_or_len}
use Rattle.std.proofs.lemmas.Bool.{eq-eqb, eqb-true}
use Rattle.std.proofs.lemmas.List.{drop-take, take-take}
use Rattle.std.specs.Int.{to_le_bytes}
use Rattle.std.proofs.lemmas.Option.{slice_get_within}
use Rattle.day_numbers.specs.Numbered.{IsNumbered}
use Rattle.date_texts.specs.declared.target.TheConstants.{MAX_TARGETS}
use Rattle.date_texts.proofs.ReadingLemmas.{some_inside}
use Rattle.date_texts.proofs.TargetNameLemmas.{finds_own}
use Rattle.date_texts.proofs.WordLemmas.{one_word}
use Rattle.std.proofs.lemmas.List.Folds.{find_at}

-- the rank of a target is its own
ranked : (t : Target) → IsNumbered all_targets (rank_of t) t
ranked t =
    let before : rank_of t - 1 ≡ position_or_len (have_one_name t) all_targets = omega arith in
    (omega arith, rw before (sym (find_at (have_one_name t) all_targets) ∙ finds_own t))

-- it stands there
pub stands_first : (t : Target) → (k : ℕ) × (k < MAX_TARGETS) × (have_one_name t (get_or all_targets k Haab) ≡ true)
stands_first t =
    let first = position_or_len (have_one_name t) all_targets in
    let within : first < MAX_TARGETS = omega (arith, slice_get_within all_targets (rank_of t - 1) t (ranked t).1) in
    (first, within, passes_at_first (have_one_name t) all_targets Haab within)

one_rank : (t u : Target) → rank_of t ≡ rank_of u → t ≡ u
one_rank t u e =
    some_inside (sym (ranked t).1 ∙ ap (λ k. slice_get all_targets (k - 1)) e ∙ (ranked u).1)

pub one_list : (room : ℕ) (ts us : List Target) → length ts ≤ room → length us ≤ room
    → ranks_in room ts ≡ ranks_in room us → ts ≡ us
one_list (suc room) (t ∷ ts) (u ∷ us) few other e =
    let first : rank_of t ≡ rank_of u = cc in
    let rest : ranks_in room ts ≡ ranks_in room us = cc in
    let head = one_rank t u first in
    let tail = one_list room ts us (omega (arith, few)) (omega (arith, other)) rest in
    cc (head, tail)
one_list room [] [] few other e = refl
one_list room ts us few other e = grind (arith, ranked)

-- one more rank
pub more_ranks : (room : ℕ) (ts : List Target) (i : ℕ) (e : Target) → i < length ts → length ts ≤ room
    → set (ranks_in room (take i ts)) i (rank_of (get_or ts i e)) ≡ ranks_in room (take (suc i) ts)
more_ranks (suc room) (t ∷ ts) (suc i) e lt few = cc (more_ranks room ts i e (omega (arith, lt)) (omega (arith, few)))
more_ranks room ts i e lt few = grind arith

-- one more word of two lists of bytes is compared
pub more_compared : (same : Bool) (v w : ℕ) (xs ys : List ℕ) (n k : ℕ) → k ≡ n + WORD_LEN → v < 2 ^ 64 → w < 2 ^ 64
    → to_le_bytes w64 v ≡ take WORD_LEN (drop n xs) → to_le_bytes w64 w ≡ take WORD_LEN (drop n ys)
    → (same ≡ true) ↔ (take n xs ≡ take n ys) → ((same && v == w) ≡ true) ↔ (take k xs ≡ take k ys)
more_compared same v w xs ys n k is small other here there before =
    let split = rw (← is) at (take-add n WORD_LEN xs) in
    let split2 = rw (← is) at (take-add n WORD_LEN ys) in (
      λ e.
          let both = and_parts same (v == w) e in
          cc (split, split2, before.0 both.0, here, there, eqb-true v w both.1),
      λ e.
          let first : take n xs ≡ take n ys = cc (take-take n k xs (omega arith), e, take-take n k ys (omega arith)) in
          let last : take WORD_LEN (drop n xs) ≡ take WORD_LEN (drop n ys) =
          sym (drop-take n WORD_LEN xs) ∙ rw is at (ap (λ (l : List ℕ). drop n l) e) ∙ drop-take n WORD_LEN ys in
          let one = one_word v w small other (here ∙ last ∙ sym there) in
          rw (before.1 first, eq-eqb v w one) refl,
    )
