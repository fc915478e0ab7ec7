use Rattle.sheet_app.proofs.reports.report_reason.Goals as goal

pub returns : goal.returns
returns g c = rw (← c.words_of.ensures.one, ← c.words_of.ensures.more, ← c.count-count.ensures) c.report_dates.ensures
