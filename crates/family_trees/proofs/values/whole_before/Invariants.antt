use Rattle.std.proofs.Common.{◌≡◌, ◌≤◌, drop, length, map, reverse, take}
use Rattle.family_trees.specs.private.LineViews.{line_seen}
use Rattle.family_trees.specs.Trees.{whole_before}
use Rattle.family_trees.proofs.values.whole_before.Given as goal

-- the lines from this place to the first one have no such value
abbrev pub invariant-lines : goal.invariant-lines
invariant-lines l = (l.count ≤ length l.lines)
    × (whole_before l.level l.tag (reverse (map line_seen (take l.place l.lines))) (map line_seen (drop l.place l.lines))
    ≡ whole_before l.level l.tag (reverse (map line_seen (take l.count l.lines))) (map line_seen (drop l.count l.lines)))

abbrev pub decreases-lines : goal.decreases-lines
decreases-lines l = l.count
