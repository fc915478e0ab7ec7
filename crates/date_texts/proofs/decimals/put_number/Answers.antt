use Rattle.std.proofs.Common.{arith, ap, sym, ◌∙◌, ◌++◌, ◌/◌, ◌%◌}
use Rattle.std.specs.Fmt.{decimal}
use Rattle.itoa.proofs.Decimal.{decimal_pair}
use Rattle.date_texts.proofs.BufferLemmas.{put_same, put_then}
use Rattle.date_texts.proofs.DigitLemmas.{two_digits}
use Rattle.date_texts.proofs.decimals.put_number.Goals as goal

pub returns : goal.returns
returns c =
    let n = c.args.number in
    put_same
    (ap (λ digits. decimal (n / 100) ++ digits) (two_digits (n % 100) (omega arith))
    ∙ sym (decimal_pair n (omega arith) (omega arith)))
    (put_then c.put_short-after.ensures.value c.put_two_digits.ensures.value)
