use Rattle.std.proofs.Common.{refl, ◌≡◌}
use Rattle.date_spans.specs.Styles.{one_day, two_days, no_julian, no_gregorian}
use Rattle.date_spans.proofs.EndLemmas.{not_false, same_day}
use Rattle.date_spans.proofs.styles.one_day.Goals as goal

pub returns-in_default : goal.returns-in_default
returns-in_default c = no_julian c.in_default.ensures.none

pub returns-in_default-day_of : goal.returns-in_default-day_of
returns-in_default-day_of c = no_gregorian c.in_default-day_of.ensures.none

pub returns-then-is_same : goal.returns-then-is_same
returns-then-is_same c =
    one_day c.in-Some.old_day.number c.in-Some.ensures.some
    (same_day _ _ _ _ (c.if-is_same.ensures.0 refl) c.in-Some-day_of.ensures.some)

pub returns : goal.returns
returns c =
    let differ : ¬ (c.in-Some.old_day.number ≡ c.in-Some-day_of.new_day.number)
    = λ e. not_false (c.if-is_same.ensures.1 e) in
    two_days c.in-Some.old_day.number c.in-Some-day_of.new_day.number c.in-Some.ensures.some c.in-Some-day_of.ensures.some
    differ
