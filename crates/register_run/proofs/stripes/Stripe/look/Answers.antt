use Rattle.register_run.proofs.Common.{rules}
use Rattle.lane_rings.specs.declared.item.Item.TheVariants as item
use Rattle.register_run.specs.private.Stripes.{StripeTook}
use Rattle.register_run.proofs.CarriedLemmas.{seen_kept}
use Rattle.register_run.proofs.stripes.Stripe.look.Goals as goal

pub returns-in-Ok-true-clause-same : goal.returns-in-Ok-true-clause-same
unfolding StripeTook
returns-in-Ok-true-clause-same c = record {
  lane = search rules;
  setup = search rules;
  kept = λ row h. c.take_found.ensures.same.kept row
      (seen_kept _ _ _ _ c.look.ensures.taken c.look.ensures.waiting (item.Entry row) h);
}

pub returns-in-Ok-false-clause-same : goal.returns-in-Ok-false-clause-same
unfolding StripeTook
returns-in-Ok-false-clause-same c = search (rules, seen_kept)

pub returns-in-Err-clause-same : goal.returns-in-Err-clause-same
unfolding StripeTook
returns-in-Err-clause-same c = search (rules, seen_kept)
