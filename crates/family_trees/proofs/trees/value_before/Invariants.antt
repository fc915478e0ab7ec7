use Rattle.std.proofs.Common.{◌≡◌, ◌≤◌, length, map, reverse, take}
use Rattle.family_trees.specs.private.LineViews.{line_seen}
use Rattle.family_trees.specs.Trees.{value_in}
use Rattle.family_trees.proofs.trees.value_before.Given as goal

-- the lines from this place on have no such value
abbrev pub invariant-lines : goal.invariant-lines
invariant-lines l = (l.count ≤ length l.lines) × (value_in l.level l.tag (reverse (map line_seen l.lines))
    ≡ value_in l.level l.tag (reverse (map line_seen (take l.count l.lines))))

abbrev pub decreases-lines : goal.decreases-lines
decreases-lines l = l.count
