use Rattle.sheets.proofs.calendar_changes.is_before.Goals as goal

pub returns-in-None : goal.returns-in-None
returns-in-None c = (λ e. absurd (cc), λ is. absurd (c.day_said.ensures.none c.in-None.is is.0 is.1))
