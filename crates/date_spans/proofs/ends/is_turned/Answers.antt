use Rattle.std.proofs.Common.{refl}
use Rattle.date_spans.specs.Ends.{behind, in_order, no_first, no_last}
use Rattle.date_spans.proofs.EndLemmas.{not_before}
use Rattle.date_spans.proofs.ends.is_turned.Goals as goal

pub returns-in_default : goal.returns-in_default
returns-in_default c = no_first c.in_default.ensures.none

pub returns-in_default-day_of : goal.returns-in_default-day_of
returns-in_default-day_of c = no_last c.in_default-day_of.ensures.none

pub returns-then-is_before : goal.returns-then-is_before
returns-then-is_before c =
    behind c.in-Some.first.number c.in-Some-day_of.last.number c.in-Some.ensures.some c.in-Some-day_of.ensures.some
    (c.if-is_before.ensures.0 refl)

pub returns : goal.returns
returns c =
    in_order c.in-Some.first.number c.in-Some-day_of.last.number c.in-Some.ensures.some c.in-Some-day_of.ensures.some
    (not_before c.in-Some-day_of.last.number c.in-Some.first.number c.if-is_before.ensures.1)
