use Rattle.std.proofs.Common.{ℕ, ◌<◌, arith, ap, sym}
use Rattle.date_texts.proofs.BufferLemmas.{put_same, put_then}
use Rattle.date_texts.proofs.WritingLemmas.{long_year, year_by_pairs}
use Rattle.date_texts.proofs.buffer.put_year_digits.Goals.{then-number-lt10000, else-number-lt10000}
use Rattle.date_texts.proofs.buffer.put_year_digits.Goals as goal

pub returns-clause-value : goal.returns-clause-value
returns-clause-value c =
    let n = c.args.number in
    let last = c.if-number-lt10000.after.1 in
    let digits = λ (h : last < 10_000). put_same (sym (year_by_pairs last h))
    (put_then c.put_two_digits-after.ensures.value c.put_two_digits.ensures.value) in
    elim c.if-number-lt10000.branch [
      | then-number-lt10000 w ↦
          let last_is = ap (λ (p : ℕ × ℕ). p.1) w.after-is in
          rw (w.buffer-is, w.after-is) at (digits (omega (arith, last_is, w.if-number-lt10000.true)))
      | else-number-lt10000 w ↦
          let last_is = ap (λ (p : ℕ × ℕ). p.1) w.after-is in
          put_same (sym (long_year n w.if-number-lt10000.false c.requires.small))
          (put_then w.put_byte-after.ensures (rw (w.buffer-is, w.after-is) at (digits (omega (arith, last_is)))))
    ]
