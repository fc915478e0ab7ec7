use Rattle.std.proofs.Common.{ℕ, ◌∷◌, [], ap, sym, ◌∙◌}
use Rattle.date_texts.proofs.BufferLemmas.{put_same, put_then}
use Rattle.date_texts.proofs.DigitLemmas.{two_digits}
use Rattle.date_texts.proofs.decimals.put_two_digits.Goals as goal

pub returns-clause-value : goal.returns-clause-value
returns-clause-value c =
    put_same
    (ap (λ (digits : ℕ × ℕ). digits.0 ∷ digits.1 ∷ []) c.two_digits-tens.ensures
    ∙ sym (two_digits c.args.number c.requires.small))
    (put_then c.put_byte-after.ensures c.put_byte.ensures)
