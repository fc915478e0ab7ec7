use Rattle.date_texts.proofs.ReadingLemmas.{fits_first}
use Rattle.date_texts.proofs.numerals.number_at.Goals as goal

pub digits_at-requires-clause-small : goal.digits_at-requires-clause-small
digits_at-requires-clause-small c = fits_first c.args.more _ c.is_ascii_digit.result c.requires
    c.if-is_ascii_digit.true c.is_ascii_digit.ensures.value
