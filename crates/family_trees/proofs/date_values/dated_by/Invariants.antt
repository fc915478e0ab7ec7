use Rattle.std.proofs.Common.{◌≡◌, drop, map}
use Rattle.family_trees.specs.DateValues.{dated_by}
use Rattle.family_trees.specs.private.DateViews.{pair_seen}
use Rattle.family_trees.proofs.date_values.dated_by.Given as goal

-- the value has none of the pairs so far
abbrev pub invariant-pairs : goal.invariant-pairs
invariant-pairs l =
    dated_by (map pair_seen l.pairs) l.value ≡ dated_by (map pair_seen (drop l.word-index l.pairs)) l.value
