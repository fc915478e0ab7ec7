use Rattle.std.proofs.Common.{◌∙◌, ◌+ℤ◌}
use Rattle.day_numbers.specs.Days.{IsDayNumber}
use Rattle.date_spans.specs.Ends.{past, step}
use Rattle.date_spans.proofs.EndLemmas.{near_cell, not_false, on_ok}
use Rattle.date_spans.proofs.ends.set_beside_day.Goals as goal

pub returns-in-Some : goal.returns-in-Some
returns-in-Some c =
    on_ok (λ e. near_cell c.args.calendar (c.args.day.number +ℤ step c.args.side) c.in-Some.beside.number
    c.cell-text.result.bytes _ c.in-Some.ensures.value c.in-Some.beside.in_range c.cell-text.ensures
    (e ∙ c.as_bytes.ensures.value ∙ c.as_str.ensures.value)) c.set_text.result c.set_text.ensures

pub returns-in-None : goal.returns-in-None
returns-in-None c =
    let no : ¬ IsDayNumber (c.args.day.number +ℤ step c.args.side) = λ h. not_false (c.in-None.ensures.made.1 h) in
    on_ok (λ e. past no e) c.set_text-in-None.result c.set_text-in-None.ensures
