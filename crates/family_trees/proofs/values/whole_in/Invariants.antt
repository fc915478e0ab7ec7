use Rattle.std.proofs.Common.{◌≡◌, ◌-◌, drop, length, map}
use Rattle.family_trees.specs.private.LineViews.{line_seen}
use Rattle.family_trees.specs.Trees.{whole_in}
use Rattle.family_trees.proofs.values.whole_in.Given as goal

-- the lines so far have no such value
abbrev pub invariant-lines : goal.invariant-lines
invariant-lines l =
    whole_in l.level l.tag (map line_seen l.lines) ≡ whole_in l.level l.tag (map line_seen (drop l.count l.lines))

abbrev pub decreases-lines : goal.decreases-lines
decreases-lines l = length l.lines - l.count
