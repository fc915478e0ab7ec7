use Rattle.std.proofs.Common.{◌∙◌, sym}
use Rattle.written_dates.proofs.UnknownLemmas.{no_word}
use Rattle.written_dates.proofs.unknown.unknown_word.Goals as goal

pub returns-then-not-has_letter : goal.returns-then-not-has_letter
returns-then-not-has_letter c =
    sym (no_word c.args.calendar c.args.names.now.listed.now c.args.text.now
    (sym c.has_letter.ensures ∙ c.if-not-has_letter.true))
