use Rattle.date_spans.proofs.SaidLemmas.{ordered_by, said_years}
use Rattle.date_spans.proofs.laws.said_years_are_exact.Goals as goal

pub returns : goal.returns
returns c =
    said_years c.args.choice.now c.args.calendar c.args.from c.args.to
    (ordered_by c.args.choice.now c.args.calendar c.args.to c.in-Some.year c.months_of.result.now c.in-Some.ensures.value
    c.months_of.ensures.value c.months_of.ensures.numbered)
