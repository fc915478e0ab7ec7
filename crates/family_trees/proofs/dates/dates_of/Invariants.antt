use Rattle.std.proofs.Common.{◌≡◌, ◌++◌, [], map}
use Rattle.family_trees.specs.DateViews.{date_seen}
use Rattle.family_trees.specs.private.LineViews.{line_seen}
use Rattle.family_trees.specs.Trees.{dates_in}
use Rattle.family_trees.proofs.DateLemmas.{dates_left}
use Rattle.family_trees.proofs.dates.dates_of.Given as goal

-- the dates so far, and those of the lines from this place on, are all
abbrev pub invariant-lines : goal.invariant-lines
invariant-lines l = map date_seen l.dates.items ++ dates_left (map line_seen l.lines) l.lines l.place
    ≡ dates_in (map line_seen l.lines) [] (map line_seen l.lines)
