use Rattle.std.proofs.Common.{◌≡◌, map}
use Rattle.std.specs.List.{flat_map}
use Rattle.family_trees.specs.private.LineViews.{line_seen}
use Rattle.family_trees.specs.Lines.{line_in}
use Rattle.family_trees.proofs.lines.lines_of.Given as goal

-- the lines are those of the parts so far
abbrev pub invariant-parts : goal.invariant-parts
invariant-parts l = map line_seen l.lines.items ≡ flat_map line_in (map (λ part. part.now) l.yielded)
