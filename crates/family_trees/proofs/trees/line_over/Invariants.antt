use Rattle.std.proofs.Common.{◌≡◌, ◌≤◌, length, map, reverse, take}
use Rattle.family_trees.specs.private.LineViews.{line_seen}
use Rattle.family_trees.specs.Trees.{line_over}
use Rattle.family_trees.proofs.trees.line_over.Given as goal

-- the lines from this place on are all deeper
abbrev pub invariant-lines : goal.invariant-lines
invariant-lines l = (l.count ≤ length l.lines) × (line_over l.level (reverse (map line_seen l.lines))
    ≡ line_over l.level (reverse (map line_seen (take l.count l.lines))))

abbrev pub decreases-lines : goal.decreases-lines
decreases-lines l = l.count
