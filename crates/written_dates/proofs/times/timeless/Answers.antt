use Rattle.std.proofs.Common.{◌≡◌, ◌∙◌, false, sym, arith, get_or}
use Rattle.written_dates.specs.Times.{begins_time}
use Rattle.written_dates.proofs.TimeLemmas.{at_front, goes_on}
use Rattle.written_dates.proofs.times.timeless.Goals as goal

pub bytes-init : goal.bytes-init
bytes-init c = record { within = omega arith; value = at_front c.args.text.now }

pub bytes-preserved : goal.bytes-preserved
bytes-preserved c =
    let never : begins_time (get_or c.split_at.result.1.now 0 0) c.split_at-in-bytes.result.1.now ≡ false
    = sym c.begins_time.ensures ∙ c.if-begins_time.false in
    record {
      within = omega arith;
      value = c.bytes.invariant.value
          ∙ goes_on c.args.text.now c.bytes.place c.bytes-test.true
          (rw (c.split_at-in-bytes.ensures.back, c.split_at.ensures.back) at never);
    }
