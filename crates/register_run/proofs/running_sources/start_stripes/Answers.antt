use Rattle.register_run.proofs.Common.{◌≡◌, [], rules, Entry, Sender, sent}
use Rattle.register_run.proofs.StripeLemmas.{all_more, both_more, each_more}
use Rattle.register_run.proofs.RunningSourceLemmas.{unpopped_more}
use Rattle.register_run.proofs.running_sources.start_stripes.Goals as goal

pub loop-preserved : goal.loop-preserved
loop-preserved g c =
    let inv = c.loop.invariant in let started = c.in-Ok.ensures in
    let stripes = c.push_reserved-in-Ok.ensures.items in let senders = c.push_reserved.ensures.items in record {
      stripes = search rules;
      senders = search rules;
      fed = both_more _ _ _ _ _ _ _ _ stripes senders started.lane inv.fed;
      setups = all_more _ _ _ _ _ _ stripes started.setup inv.setups;
      fresh = each_more (λ (sender : Sender Entry). sent sender ≡ []) _ _ _ senders inv.fresh started.fresh;
      unpopped = unpopped_more _ _ _ stripes started.untaken inv.unpopped;
    }
