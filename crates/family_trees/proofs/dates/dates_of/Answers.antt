use Rattle.std.proofs.Common.{rules, map, sym, ◌∙◌, ap}
use Rattle.std.proofs.lemmas.List.{map_push}
use Rattle.family_trees.specs.DateViews.{date_seen}
use Rattle.family_trees.specs.private.LineViews.{line_seen}
use Rattle.family_trees.proofs.DateLemmas.{no_date_more, one_date_more}
use Rattle.family_trees.proofs.dates.dates_of.Goals as goal
use Rattle.family_trees.proofs.dates.dates_of.Goals.{else-is_date, then-is_date+in_ok-date+in_ok-push}

pub lines-preserved : goal.lines-preserved
lines-preserved c =
    let lines = c.as_slice-lines.result.now in
    elim c.if-is_date.branch [
      | then-is_date+in_ok-date+in_ok-push w ↦
          rw (w.dates-is, w.in_ok-push.ensures.items, map_push date_seen c.lines.dates.items w.in_ok-date.date) (
          one_date_more (map line_seen lines) _ lines c.lines.place _ (map date_seen c.lines.dates.items) _
          (date_seen w.in_ok-date.date) c.lines-test.true (sym c.is_date.ensures ∙ w.if-is_date.true)
          (ap (map line_seen) c.as_slice-lines.ensures.value) (w.in_ok-date.ensures _) c.lines.invariant)
      | else-is_date w ↦ rw w.dates-is (search (rules, no_date_more))
    ]
