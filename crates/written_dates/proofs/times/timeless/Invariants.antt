use Rattle.std.proofs.Common.{◌≡◌, ◌≤◌, ◌-◌, length, take, drop}
use Rattle.written_dates.specs.Times.{timeless}
use Rattle.written_dates.specs.private.SignViews.{joined_front}
use Rattle.written_dates.proofs.times.timeless.Given as goal

abbrev pub invariant-bytes : goal.invariant-bytes
invariant-bytes l = record {
  within : l.place ≤ length l.text;
  value : timeless l.text ≡ joined_front (take l.place l.text) (timeless (drop l.place l.text));
}

abbrev pub decreases-bytes : goal.decreases-bytes
decreases-bytes l = length l.text - l.place
