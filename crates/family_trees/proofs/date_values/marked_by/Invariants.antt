use Rattle.std.proofs.Common.{◌≡◌, drop, map}
use Rattle.family_trees.specs.DateValues.{marked}
use Rattle.family_trees.specs.private.DateViews.{pair_seen}
use Rattle.family_trees.proofs.date_values.marked_by.Given as goal

-- the date begins with none of the marks so far
abbrev pub invariant-marks : goal.invariant-marks
invariant-marks l = marked (map pair_seen l.marks) l.date ≡ marked (map pair_seen (drop l.mark-index l.marks)) l.date
