use Rattle.std.proofs.Common.{refl}
use Rattle.date_texts.proofs.Common.{Long, Longcount}
use Rattle.date_texts.proofs.DateTextLemmas.{none_says, some_says}
use Rattle.date_texts.proofs.long_text.long_date_at.Goals as goal

pub returns-in_err-baktun : goal.returns-in_err-baktun
returns-in_err-baktun c =
    none_says Longcount c.args.text.now c.from_residual.result (cc)
    (rw (← c.long_at.ensures.value, c.in_err-baktun.was) refl)

pub returns : goal.returns
returns c =
    let places = c.in_ok-count.ensures.value in
    some_says Longcount c.args.text.now (Long c.in_ok-count.count) refl
    (rw (← c.long_at.ensures.value, c.in_ok-baktun.was) (cc))
