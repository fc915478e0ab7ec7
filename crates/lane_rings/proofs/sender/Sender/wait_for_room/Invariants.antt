use Rattle.std.proofs.Common.{◌≡◌}
use Rattle.lane_rings.specs.Lane.{sender_lane, sent}
use Rattle.lane_rings.proofs.sender.Sender.wait_for_room.Given as goal

abbrev pub invariant-loop : goal.invariant-loop
invariant-loop g l =
    (sender_lane l.self ≡ sender_lane l.initial.self) × (sent l.self ≡ sent l.initial.self)
