use Rattle.std.proofs.Common.{◌∙◌, ap, sym}
use Rattle.written_dates.specs.private.Keys.{key_of_chars}
use Rattle.written_dates.proofs.WordLemmas.{folded-ascii, folded-plain, folded-read}
use Rattle.written_dates.proofs.names.key_of_word.Goals as goal

pub returns-then-is_ascii-clause-value : goal.returns-then-is_ascii-clause-value
returns-then-is_ascii-clause-value c =
    c.key_of_bytes-key.ensures.value
    ∙ ap key_of_chars (sym (folded-ascii c.args.word.now (c.key_of_bytes-key.ensures.ascii c.if-is_ascii.true)))

pub returns-in-Some-clause-value : goal.returns-in-Some-clause-value
returns-in-Some-clause-value c =
    let read = c.in-Some.ensures.some in
    c.key_of_chars.ensures.value
    ∙ ap key_of_chars (c.as_slice.ensures.value ∙ read.1 ∙ sym (folded-read c.args.word.now read.0))

pub returns-in-None-clause-value : goal.returns-in-None-clause-value
returns-in-None-clause-value c =
    c.key_of_bytes-key.ensures.value ∙ ap key_of_chars (sym (folded-plain c.args.word.now c.in-None.ensures.none))
