use Rattle.std.proofs.Common.{arith, ◌∙◌, sym}
use Rattle.date_texts.proofs.ReadingLemmas.{digits_step, fits_more}
use Rattle.date_texts.proofs.numerals.digits_at.Goals as goal

pub loop-left-preserved : goal.loop-left-preserved
loop-left-preserved c =
    let is_digit = sym c.is_ascii_digit.ensures.value ∙ c.if-not-is_ascii_digit.false in
    record {
      same = digits_step c.loop-left.left c.loop-left.value c.loop-left.rest.now (omega arith)
          c.in-len1-up.len_at_least is_digit ∙ c.loop-left.invariant.same;
      few = omega (arith, c.loop-left.invariant.few);
      small = fits_more c.loop-left.left c.loop-left.value _ c.is_ascii_digit.result (omega arith)
          c.loop-left.invariant.few c.loop-left.invariant.small c.if-not-is_ascii_digit.false
          c.is_ascii_digit.ensures.value;
    }
