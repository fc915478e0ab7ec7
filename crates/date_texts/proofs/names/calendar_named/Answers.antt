use Rattle.std.proofs.Common.{refl}
use Rattle.date_texts.proofs.TargetNameLemmas.{calendar_is_named}
use Rattle.date_texts.proofs.names.calendar_named.Goals as goal

pub returns-in_err-calendar : goal.returns-in_err-calendar
returns-in_err-calendar c = calendar_is_named c.target_named.result _ c.args.text.now c.target_named.ensures
    (rw c.in_err-calendar.was (cc))

pub returns-in-Date : goal.returns-in-Date
returns-in-Date c = calendar_is_named c.target_named.result _ c.args.text.now c.target_named.ensures
    (rw (c.in_ok-calendar.was, c.in-Date.is) refl)

pub returns-in-Haab : goal.returns-in-Haab
returns-in-Haab c = calendar_is_named c.target_named.result _ c.args.text.now c.target_named.ensures
    (rw (c.in_ok-calendar.was, c.in-Haab.is) refl)

pub returns-in-Tzolkin : goal.returns-in-Tzolkin
returns-in-Tzolkin c = calendar_is_named c.target_named.result _ c.args.text.now c.target_named.ensures
    (rw (c.in_ok-calendar.was, c.in-Tzolkin.is) refl)
