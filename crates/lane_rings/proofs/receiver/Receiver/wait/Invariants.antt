use Rattle.std.proofs.Common.{◌≡◌}
use mathlib.Core.List.{IsPrefix}
use Rattle.lane_rings.specs.Lane.{receiver_lane, taken, waiting}
use Rattle.lane_rings.proofs.receiver.Receiver.wait.Given as goal

abbrev pub invariant-loop : goal.invariant-loop
invariant-loop g l = record {
  lane : receiver_lane l.self ≡ receiver_lane l.initial.self;
  taken : taken l.self ≡ taken l.initial.self;
  waiting : IsPrefix (waiting l.initial.self) (waiting l.self);
}
