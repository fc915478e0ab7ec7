use Rattle.std.proofs.Common.{◌≡◌, [], map}
use Rattle.std.specs.List.{flat_map}
use Rattle.family_trees.specs.Lines.{line_in}
use Rattle.family_trees.proofs.own_dates.is_tree.Given as goal

-- no part so far is a line
abbrev pub invariant-parts : goal.invariant-parts
invariant-parts l = flat_map line_in (map (λ part. part.now) l.yielded) ≡ []
