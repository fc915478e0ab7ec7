use Rattle.std.proofs.Common.{arith, codes}
use Rattle.sheets.specs.NameMeanings.{day_name}
use Rattle.sheets.proofs.MeaningLemmas.{parts_said}
use Rattle.sheets.proofs.feast_names.fixed_said.Goals as goal

pub returns-in_err-month-clause-none : goal.returns-in_err-month-clause-none
returns-in_err-month-clause-none c none month day days (lm, hm, ld, hd, few, is) =
    rw c.in_err-month.was at (parts_said 45 (codes "feast ") c.args.field.now c.in_ok-strip_prefix.field-0.now month
    (day_name day days) c.split_once.result c.in_ok-strip_prefix.ensures.cases
    c.split_once.ensures.cases (omega arith) (omega arith) is)

pub returns-in_err-month-2-clause-none : goal.returns-in_err-month-2-clause-none
returns-in_err-month-2-clause-none c none month day days (lm, hm, ld, hd, few, is) =
    let (front, behind) = rw c.in_ok-month.was at (parts_said 45 (codes "feast ") c.args.field.now
    c.in_ok-strip_prefix.field-0.now month (day_name day days) c.split_once.result c.in_ok-strip_prefix.ensures.cases
    c.split_once.ensures.cases (omega arith) (omega arith) is) in
    c.number_said.ensures.none c.in_err-month-2.was month (lm, hm, front)

pub returns-in_err-day-clause-none : goal.returns-in_err-day-clause-none
returns-in_err-day-clause-none c none month day days (lm, hm, ld, hd, few, is) =
    let (front, behind) = rw c.in_ok-month.was at (parts_said 45 (codes "feast ") c.args.field.now
    c.in_ok-strip_prefix.field-0.now month (day_name day days) c.split_once.result c.in_ok-strip_prefix.ensures.cases
    c.split_once.ensures.cases (omega arith) (omega arith) is) in
    c.day_said.ensures.none c.in_err-day.was day days (ld, hd, few, behind)
