use Rattle.register_run.proofs.Common.{◌≡◌, ◌∙◌, length, refl, rules, sym, into_iter_items}
use Rattle.register_run.proofs.StripeLemmas.{all_made, none_made, seen_more}
use Rattle.register_run.proofs.running.report.Goals as goal

pub loop-one-init : goal.loop-one-init
loop-one-init g c = let all = c.into_iter-one-iterator.ensures.into_iter_gives.0 in record {
  room = search rules;
  outputs = none_made _ _ _ _ c.requires.none.0 all;
  ends = none_made _ _ _ _ c.requires.none.1 all;
  ran = none_made _ _ _ _ c.requires.none.2 all;
}

pub loop-one-preserved : goal.loop-one-preserved
loop-one-preserved g c = let inv = c.loop-one.invariant in let next = c.in-Some.ensures.steps.0 in record {
  room = search rules;
  outputs = seen_more _ _ _ _ _ _ _ _ c.push_reserved.ensures.items refl next inv.outputs;
  ends = seen_more _ _ _ _ _ _ _ _ c.push_reserved-in-loop-one.ensures.items refl next inv.ends;
  ran = seen_more _ _ _ _ _ _ _ _ c.push_reserved-in-loop-one-2.ensures.items refl next inv.ran;
}

pub returns : goal.returns
returns g c =
    let inv = c.loop-one.invariant in
    let none : length (into_iter_items c.loop-one.one-iterator) ≡ 0 =
    sym c.loop-one.one-iterator.rest.ok.0 ∙ c.in-None.ensures.steps.0 in record {
      outputs = all_made _ _ _ _ none inv.outputs;
      ends = all_made _ _ _ _ none inv.ends;
      ran = all_made _ _ _ _ none inv.ran;
      verdict = rw c.deref.ensures.value at c.verdict_of-verdict.ensures;
    }
