use Rattle.std.proofs.Common.{◌≡◌, ℕ, List, ◌++◌, ap, sym, ◌∙◌}
use Rattle.written_dates.specs.Written.{joined, numbers, stood}
use Rattle.date_spans.proofs.SpanLemmas.{stands_alone}
use Rattle.date_spans.proofs.spans.set_standing.Goals as goal

pub returns : goal.returns
returns c =
    λ is names.
    let runs : List ℕ × List ℕ × List ℕ = (c.in-Some.year.now, c.in-Some.month.now, c.in-Some.day.now) in
    let date = stood c.args.choice.now c.args.calendar (joined runs.0 runs.1 runs.2) (numbers runs) in
    let alone = stands_alone c.args.choice.now c.args.calendar names c.args.text.now runs c.requires
    (sym c.has_slash_byte.ensures ∙ c.if-has_slash_byte.false) (sym c.in-Some.ensures) in
    let pushed : c.push_stood.new.out.items ≡ date
    = c.in_ok-push_stood.ensures ∙ ap (λ items. items ++ date) c.clear.ensures.items in
    (alone.0, pushed ∙ sym alone.1, c.in_ok-set_text.ensures ∙ c.as_slice.ensures.value ∙ pushed ∙ sym alone.1)
