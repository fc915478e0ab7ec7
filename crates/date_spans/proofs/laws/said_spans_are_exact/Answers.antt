use Rattle.date_spans.proofs.SaidLemmas.{month_ends, ordered_by, said_month, said_year, year_ends}
use Rattle.date_spans.proofs.laws.said_spans_are_exact.Goals as goal

pub returns-clause-month : goal.returns-clause-month
returns-clause-month c = said_month c.args.choice.now c.args.calendar c.args.said c.args.month

pub returns-clause-year : goal.returns-clause-year
returns-clause-year c =
    said_year c.args.choice.now c.args.calendar c.args.said
    (ordered_by c.args.choice.now c.args.calendar c.args.said c.in-Some.year c.months_of.result.now c.in-Some.ensures.value
    c.months_of.ensures.value c.months_of.ensures.numbered)

pub returns-clause-month_forwards : goal.returns-clause-month_forwards
returns-clause-month_forwards c = month_ends c.args.choice.now c.args.calendar c.args.said c.args.month

pub returns-clause-year_forwards : goal.returns-clause-year_forwards
returns-clause-year_forwards c =
    year_ends c.args.choice.now c.args.calendar c.args.said
    (ordered_by c.args.choice.now c.args.calendar c.args.said c.in-Some.year c.months_of.result.now c.in-Some.ensures.value
    c.months_of.ensures.value c.months_of.ensures.numbered)
