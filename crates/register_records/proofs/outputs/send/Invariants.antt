use Rattle.register_records.proofs.Common.{◌≡◌, ◌-◌, ◌≤◌, length, take, Appends}
use Rattle.register_records.proofs.outputs.send.Given as goal

abbrev pub invariant-offers : goal.invariant-offers
invariant-offers g l =
    (l.sent ≤ length l.bytes)
    × Appends (g.W.Output.contents l.fn.output) (g.W.Output.contents l.output) (take l.sent l.bytes)
    × (g.W.Output.has_failed l.output ≡ g.W.Output.has_failed l.fn.output)
    × (g.W.Output.own_mark l.output ≡ g.W.Output.own_mark l.fn.output)

abbrev pub decreases-offers : goal.decreases-offers
decreases-offers g l = length l.bytes - l.sent
