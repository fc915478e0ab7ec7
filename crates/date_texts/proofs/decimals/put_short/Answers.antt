use Rattle.std.proofs.Common.{arith, sym, ◌<◌, length-set}
use Rattle.itoa.proofs.Decimal.{decimal_two, length_two}
use Rattle.date_texts.proofs.BufferLemmas.{put_ones, put_pair, put_same}
use Rattle.date_texts.proofs.DigitLemmas.{one_or_two}
use Rattle.date_texts.proofs.decimals.put_short.Goals.{then-number-lt10, else-number-lt10}
use Rattle.date_texts.proofs.decimals.put_short.Goals as goal

pub bounds-buffer-at : goal.bounds-buffer-at
bounds-buffer-at c = omega (arith, one_or_two c.args.number c.requires.small)

pub bounds-buffer-last : goal.bounds-buffer-last
bounds-buffer-last c = grind (arith, then-number-lt10, one_or_two, length-set, else-number-lt10, length_two)

pub returns-clause-value : goal.returns-clause-value
returns-clause-value c =
    let n = c.args.number in
    let digits = c.two_digits-tens.ensures in
    elim c.if-number-lt10.branch [
      | then-number-lt10 w ↦
          rw (w.last-is, digits)
          (put_ones c.args.buffer.now c.args.at n (omega (arith, one_or_two n c.requires.small))
          w.if-number-lt10.true)
      | else-number-lt10 w ↦
          let small : n < 100 = omega (arith, c.requires.small) in
          rw (w.last-is, digits)
          (put_same (sym (decimal_two n w.if-number-lt10.false small))
          (put_pair c.args.buffer.now c.args.at n
          (omega (arith, length_two n w.if-number-lt10.false small, c.requires.room))))
    ]
