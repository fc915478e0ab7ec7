use Rattle.std.proofs.Common.{◌≡◌, ◌++◌, drop, map}
use Rattle.family_trees.specs.private.LineViews.{line_seen}
use Rattle.family_trees.specs.Trees.{joined_to}
use Rattle.family_trees.proofs.values.push_joined.Given as goal

-- what is appended so far, and what the lines that are left join to it, is all
abbrev pub invariant-lines : goal.invariant-lines
invariant-lines l = l.whole.items ++ joined_to l.level (map line_seen (drop l.line-index l.behind))
    ≡ l.initial.whole.items ++ joined_to l.level (map line_seen l.behind)
