use Rattle.std.proofs.Common.{◌∙◌, sym, arith}
use Rattle.written_dates.proofs.DayLemmas.{first_found, first_later, first_none}
use Rattle.written_dates.proofs.weekdays.first_on.Goals as goal

pub returns-then-is_on : goal.returns-then-is_on
returns-then-is_on c =
    sym (first_found c.args.calendar c.args.year c.args.month c.args.weekday c.days.left c.days.day (omega arith)
    (sym c.is_on.ensures ∙ c.if-is_on.true))
    ∙ c.days.invariant.found

pub days-preserved : goal.days-preserved
days-preserved c = record {
  found = sym (first_later c.args.calendar c.args.year c.args.month c.args.weekday c.days.left c.days.day (omega arith)
      (sym c.is_on.ensures ∙ c.if-is_on.false))
      ∙ c.days.invariant.found;
  within = omega arith;
}

pub returns : goal.returns
returns c =
    sym (first_none c.args.calendar c.args.year c.args.month c.args.weekday c.days.left c.days.day (omega arith))
    ∙ c.days.invariant.found
