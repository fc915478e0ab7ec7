use Rattle.std.proofs.Common.{arith, sym, ◌/◌, ◌%◌}
use Rattle.itoa.proofs.Decimal.{decimal_four}
use Rattle.date_texts.proofs.BufferLemmas.{put_same, put_then}
use Rattle.date_texts.proofs.DigitLemmas.{two_digits}
use Rattle.date_texts.proofs.decimals.put_decimal.Goals as goal

pub returns : goal.returns
returns c =
    let n = c.args.number in
    let last = n % 10000 in
    put_same (sym (decimal_four n (omega arith) (omega arith)))
    (put_then c.put_number-after.ensures
    (put_then
    (put_same (two_digits (last / 100) (omega arith)) c.put_two_digits-after.ensures.value)
    (put_same (two_digits (last % 100) (omega arith)) c.put_two_digits.ensures.value)))
