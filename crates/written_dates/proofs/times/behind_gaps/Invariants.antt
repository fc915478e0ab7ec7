use Rattle.std.proofs.Common.{◌≡◌, length}
use Rattle.written_dates.specs.Times.{behind_gaps}
use Rattle.written_dates.proofs.times.behind_gaps.Given as goal

abbrev pub invariant-bytes : goal.invariant-bytes
invariant-bytes l = behind_gaps l.rest ≡ behind_gaps l.fn.text

abbrev pub decreases-bytes : goal.decreases-bytes
decreases-bytes l = length l.rest
