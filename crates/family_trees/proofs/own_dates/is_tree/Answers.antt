-- The first part that is a line is the first line.
use Rattle.std.proofs.Common.{rules, ◌≡◌, ◌∙◌, ◌<◌, ℕ, List, [], None, Some, ap, get_or, length}
use Rattle.std.proofs.Common.{map, refl, sym, take, tests}
use Rattle.std.specs.List.{flat_map, slice_split}
use Rattle.std.proofs.lemmas.Iterator.Consumers.{YieldsList-at, YieldsList-end, YieldsList-so_far, YieldsList-turn}
use Rattle.std.proofs.lemmas.Iterator.Splits.{YieldsList-from_slice_split}
use Rattle.std.proofs.lemmas.List.{map_push}
use Rattle.family_trees.specs.private.LineViews.{line_seen}
use Rattle.family_trees.specs.Lines.{is_end, line_in, line_of, unindented}
use Rattle.family_trees.specs.OwnDates.{begins_with_head}
use Rattle.family_trees.proofs.LineLemmas.{first_line, no_line_more}
use Rattle.family_trees.proofs.own_dates.is_tree.Goals as goal
use Rattle.family_trees.proofs.own_dates.is_tree.Goals.{In-Some}

-- this part stands behind those so far
next_part : (c : In-Some) → let all = slice_split is_end c.unmarked.result.now in
    ((length c.parts.yielded < length all) × (c.in-Some.part.now ≡ get_or all (length c.parts.yielded) c.in-Some.part.now))
    × (map (λ part. part.now) c.parts.yielded ≡ take (length c.parts.yielded) all)
next_part c =
    let split = c.split-part-items.ensures in (
      YieldsList-turn (YieldsList-at c.into_iter-part-iterator.ensures.into_iter_gives
          (YieldsList-from_slice_split _ is_end c.unmarked.result.now split.rest split.done split.closure
          (λ x r q k. search (rules, tests)))) c.parts.yielded _ c.parts.yielded_by _ _ c.in-Some.part c.in-Some.is
          c.next.ensures.steps,
      YieldsList-so_far (YieldsList-at c.into_iter-part-iterator.ensures.into_iter_gives
          (YieldsList-from_slice_split _ is_end c.unmarked.result.now split.rest split.done split.closure
          (λ x r q k. search (rules, tests)))) c.parts.yielded _ c.parts.yielded_by,
    )

pub returns-in-Some-line_of : goal.returns-in-Some-line_of
returns-in-Some-line_of c =
    let (place, front) = next_part (goal.at.returns-in-Some-line_of c).In-Some in
    let is : line_of (unindented c.in-Some.part.now) ≡ Some (line_seen c.in-Some-line_of.line)
    = rw (← c.unindented.ensures, ← c.line_of.ensures, c.in-Some-line_of.is) refl in
    c.is_wanted.ensures
    ∙ first_line _ (map (λ part. part.now) c.parts.yielded) _ c.in-Some.part.now _ place front c.parts.invariant is
    ∙ ap (λ (text : List ℕ). begins_with_head (flat_map line_in (slice_split is_end text))) c.unmarked.ensures

pub parts-preserved : goal.parts-preserved
parts-preserved c =
    let is : line_of (unindented c.in-Some.part.now) ≡ None
    = rw (← c.unindented.ensures, ← c.line_of.ensures, c.in_default.is) refl in
    rw (map_push (λ part. part.now) c.parts.yielded c.in-Some.part)
    (no_line_more (map (λ part. part.now) c.parts.yielded) c.in-Some.part.now c.parts.invariant is)

pub returns : goal.returns
returns c =
    let split = c.split-part-items.ensures in
    let all = YieldsList-end (YieldsList-at c.into_iter-part-iterator.ensures.into_iter_gives
    (YieldsList-from_slice_split _ is_end c.unmarked.result.now split.rest split.done split.closure
    (λ x r q k. search (rules, tests)))) c.parts.yielded _ c.parts.yielded_by _ _ c.in-None.is c.next.ensures.steps in
    let none : flat_map line_in (slice_split is_end c.unmarked.result.now) ≡ []
    = ap (flat_map line_in) (sym all.0) ∙ c.parts.invariant in
    ap begins_with_head (sym none)
    ∙ ap (λ (text : List ℕ). begins_with_head (flat_map line_in (slice_split is_end text))) c.unmarked.ensures
