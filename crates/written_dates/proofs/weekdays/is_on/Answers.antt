use Rattle.std.proofs.Common.{◌∙◌, sym, arith}
use Rattle.std.proofs.lemmas.Int.{ints}
use Rattle.written_dates.proofs.DayLemmas.{not_ruled, on_date, large}
use Rattle.written_dates.proofs.weekdays.is_on.Goals as goal

pub returns-in_default : goal.returns-in_default
returns-in_default c =
    sym (not_ruled c.args.calendar c.args.year c.args.month c.args.day c.args.weekday
    (λ e. c.in_default.not-Civil (c.form_of.ensures ∙ e)))

pub returns-then-year-lt1 : goal.returns-then-year-lt1
returns-then-year-lt1 c =
    sym (large c.args.calendar c.args.year c.args.month c.args.day c.args.weekday
    (λ small. omega (arith, small.some, small.few, small.small_month, small.small_day, c.then-year-lt1.either)))

pub returns-in-Some-new : goal.returns-in-Some-new
returns-in-Some-new c =
    on_date c.args.calendar c.in-Some.ymd c.args.year c.args.month c.args.day c.args.weekday c.is_date_on.result
    (sym c.form_of.ensures ∙ c.in-Civil.is)
    (record { some = omega arith; few = omega arith; small_month = omega arith; small_day = omega arith })
    (omega (arith, ints, c.in-Some.ensures.value)) (omega (arith, ints, c.in-Some.ensures.value))
    (omega (arith, ints, c.in-Some.ensures.value))
    (rw (c.in-Some-new.ensures.value.0, c.in-Some-new.ensures.value.1) at c.is_date_on.ensures)
