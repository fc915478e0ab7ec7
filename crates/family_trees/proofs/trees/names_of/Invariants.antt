use Rattle.std.proofs.Common.{◌≤◌, drop, length, map}
use Rattle.family_trees.specs.private.LineViews.{line_seen}
use Rattle.family_trees.specs.private.TreeViews.{AreNames}
use Rattle.family_trees.proofs.trees.names_of.Given as goal

-- the names are those of the lines from this place on
abbrev pub invariant-lines : goal.invariant-lines
invariant-lines l = (l.count ≤ length l.lines) × AreNames l.names (map line_seen (drop l.count l.lines))

abbrev pub decreases-lines : goal.decreases-lines
decreases-lines l = l.count
