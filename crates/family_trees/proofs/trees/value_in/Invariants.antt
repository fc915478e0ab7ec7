use Rattle.std.proofs.Common.{◌≡◌, drop, map}
use Rattle.family_trees.specs.private.LineViews.{line_seen}
use Rattle.family_trees.specs.Trees.{value_in}
use Rattle.family_trees.proofs.trees.value_in.Given as goal

-- the lines so far have no such value
abbrev pub invariant-lines : goal.invariant-lines
invariant-lines l =
    value_in l.level l.tag (map line_seen l.lines) ≡ value_in l.level l.tag (map line_seen (drop l.line-index l.lines))
