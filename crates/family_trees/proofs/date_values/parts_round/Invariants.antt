use Rattle.std.proofs.Common.{◌≡◌, ◌≤◌, ◌+◌, ◌-◌, drop, length}
use Rattle.family_trees.specs.DateValues.{place_of}
use Rattle.family_trees.proofs.date_values.parts_round.Given as goal

-- the part begins at no place so far
abbrev pub invariant-places : goal.invariant-places
invariant-places l =
    (l.place ≤ length l.text) × (place_of l.part l.text ≡ l.place + place_of l.part (drop l.place l.text))

abbrev pub decreases-places : goal.decreases-places
decreases-places l = length l.text - l.place
