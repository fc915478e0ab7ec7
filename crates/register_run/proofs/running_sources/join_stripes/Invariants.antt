use Rattle.register_run.proofs.Common.{◌≡◌, map, true, Bool, into_iter_items, HavePassedOn, feeding_lane, AreOfLanes}
use Rattle.register_run.proofs.running_sources.join_stripes.Given as goal

abbrev pub invariant-loop-stripe : goal.invariant-loop-stripe
invariant-loop-stripe g l =
    let stripes = into_iter_items l.stripe-iterator in let closed = into_iter_items l.rest in record {
      from : AreOfLanes (map feeding_lane stripes) closed;
      passed : l.confirmed ≡ true → (b : Bool) → (b ≡ true → l.ended ≡ true)
          → HavePassedOn b stripes closed → HavePassedOn b l.fn.stripes.items l.fn.closed.items;
    }
