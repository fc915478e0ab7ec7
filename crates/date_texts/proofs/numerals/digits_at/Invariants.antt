use Rattle.std.proofs.Common.{◌≡◌, ◌-◌, ◌^◌, ◌<◌, ◌≤◌}
use Rattle.date_texts.specs.private.Reading.{digits_at}
use Rattle.date_texts.proofs.numerals.digits_at.Given as goal

abbrev pub invariant-loop-left : goal.invariant-loop-left
invariant-loop-left l = record {
  same : digits_at l.left l.value l.rest ≡ digits_at l.more l.fn.number l.fn.bytes;
  few : l.left ≤ 4;
  small : l.value < 10 ^ (5 - l.left);
}

abbrev pub decreases-loop-left : goal.decreases-loop-left
decreases-loop-left l = l.left
