-- The dates that stay are those that are not of the file.
use Rattle.std.proofs.Common.{rules, ◌∙◌, ap, filter, map, not}
use Rattle.std.proofs.lemmas.Fn.{filter_same}
use Rattle.family_trees.specs.DateViews.{date_seen}
use Rattle.family_trees.specs.OwnDates.{is_of_file}
use Rattle.family_trees.specs.Trees.{tree_dates}
use Rattle.family_trees.proofs.DateLemmas.{map_filter}
use Rattle.family_trees.proofs.own_dates.own_dates_of.Goals as goal

pub returns : goal.returns
returns c =
    let kept = filter_same _ (λ date. not (is_of_file (date_seen date))) _ (λ x b f' k. search rules) _ _
    c.retain.ensures.filtered in
    ap (map date_seen) kept
    ∙ map_filter (λ it. not (is_of_file it)) date_seen c.in_ok-dates.dates.items
    ∙ ap (filter (λ it. not (is_of_file it))) (c.in_ok-dates.ensures ∙ ap tree_dates c.unmarked.ensures)
