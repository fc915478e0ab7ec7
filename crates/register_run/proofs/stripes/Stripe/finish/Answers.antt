use Rattle.register_run.proofs.Common.{refl, items}
use Rattle.register_run.proofs.CarriedLemmas.{passed_on}
use Rattle.register_run.proofs.stripes.Stripe.finish.Goals as goal

pub returns : goal.returns
returns g c = record {
  passed =
      passed_on _ _ c.args.self c.args.closed c.join-entries.result c.join-entries.ensures
      (c.in_ok-confirm.ensures.whole.0 refl) (c.in_ok-confirmed.ensures.whole.0 refl)
      (c.in_ok-confirmed.ensures.none_waits refl) (items c.in_ok-confirmed.confirmed) c.ended.result
      c.args.self.count c.eq.result c.in_ok-confirmed.ensures.items c.ended.ensures c.eq.ensures;
}
