use Rattle.std.proofs.Common.{◌≡◌, ◌-◌, length}
use Rattle.register_records.specs.Faults.{bytes_to_come}
use Rattle.register_records.proofs.faults.ChunksRead.read.Given as goal

abbrev pub invariant-spent : goal.invariant-spent
invariant-spent l = bytes_to_come l.self ≡ bytes_to_come l.fn.self

abbrev pub decreases-spent : goal.decreases-spent
decreases-spent l = length l.self.chunks.items - l.self.next
