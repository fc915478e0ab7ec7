use Rattle.register_run.proofs.Common.{◌≡◌, ◌≤◌, map, replicate, vec_len, vec_capacity, [], All, sender_lane, sent}
use Rattle.register_run.proofs.Common.{feeding_lane, stripe_setup, popped}
use Rattle.register_run.proofs.running_sources.start_stripes.Given as goal

abbrev pub invariant-loop : goal.invariant-loop
invariant-loop g l = record {
  stripes : (vec_len l.stripes ≡ l.counter) × (l.count ≤ vec_capacity l.stripes);
  senders : (vec_len l.senders ≡ l.counter) × (l.count ≤ vec_capacity l.senders);
  fed : map feeding_lane l.stripes.items ≡ map sender_lane l.senders.items;
  setups : map stripe_setup l.stripes.items ≡ replicate l.counter l.context.setup.now;
  fresh : All (λ s. sent s ≡ []) l.senders.items;
  unpopped : popped l.stripes.items ≡ 0;
}
