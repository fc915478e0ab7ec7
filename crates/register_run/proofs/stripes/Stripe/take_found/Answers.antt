use Rattle.register_run.proofs.Common.{rules, refl}
use Rattle.register_run.proofs.CarriedLemmas.{mark_passed}
use Rattle.register_run.proofs.stripes.Stripe.take_found.Goals as goal

pub returns-in-Some-End-clause-looked : goal.returns-in-Some-End-clause-looked
returns-in-Some-End-clause-looked c =
    let none = mark_passed _ _ _ _ _ refl (rw c.in-Some-End.field-0-is at c.in-Some-End.ensures.next)
    c.pass.ensures.taken c.pass.ensures.one in search (rules, none)

pub returns-in-Some-Stop-clause-looked : goal.returns-in-Some-Stop-clause-looked
returns-in-Some-Stop-clause-looked c =
    let none = mark_passed _ _ _ _ _ refl (rw c.in-Some-Stop.field-0-is at c.in-Some-Stop.ensures.next)
    c.pass-in-Some-Stop.ensures.taken c.pass-in-Some-Stop.ensures.one in search (rules, none)
