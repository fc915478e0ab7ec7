use Rattle.std.proofs.Common.{rules, refl, map, tests}
use Rattle.std.proofs.lemmas.Iterator.Consumers.{YieldsList-at, YieldsList-end}
use Rattle.std.proofs.lemmas.Iterator.Splits.{YieldsList-from_slice_split}
use Rattle.std.proofs.lemmas.List.{append-nil, map_push}
use Rattle.family_trees.specs.private.LineViews.{line_seen}
use Rattle.family_trees.specs.Lines.{is_end}
use Rattle.family_trees.proofs.LineLemmas.{one_part_more}
use Rattle.family_trees.proofs.lines.lines_of.Goals as goal

pub parts-preserved-in-Continue-1 : goal.parts-preserved-in-Continue-1
parts-preserved-in-Continue-1 c =
    let more = one_part_more (map line_seen c.parts.lines.items)
    (map (λ part. part.now) c.parts.yielded) c.in-Some.part.now c.parts.invariant in
    rw (
      c.in_ok-push.ensures.items,
      map_push line_seen c.parts.lines.items c.in-Some-line_of.line,
      map_push (λ part. part.now) c.parts.yielded c.in-Some.part,
      ← more,
      ← c.unindented.ensures,
      ← c.line_of.ensures,
      c.in-Some-line_of.is,
    ) refl

pub parts-preserved : goal.parts-preserved
parts-preserved c =
    let more = one_part_more (map line_seen c.parts.lines.items)
    (map (λ part. part.now) c.parts.yielded) c.in-Some.part.now c.parts.invariant in
    rw (
      map_push (λ part. part.now) c.parts.yielded c.in-Some.part,
      ← more,
      ← c.unindented.ensures,
      ← c.line_of.ensures,
      c.in_default.is,
      append-nil (map line_seen c.parts.lines.items),
    ) refl

pub returns : goal.returns
returns c =
    let split = c.split-part-items.ensures in
    let all = YieldsList-end (YieldsList-at c.into_iter-part-iterator.ensures.into_iter_gives
    (YieldsList-from_slice_split _ is_end c.args.text.now split.rest split.done split.closure
    (λ x r q k. search (rules, tests)))) c.parts.yielded _ c.parts.yielded_by _ _ c.in-None.is c.next.ensures.steps in
    rw (c.parts.invariant, all.0) refl
