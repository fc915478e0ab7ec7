use Rattle.register_run.proofs.Common.{◌≡◌, ◌∙◌, length, rules, sym, into_iter_items}
use Rattle.register_run.proofs.HeadlineLemmas.{start_begin, start_end, start_more}
use Rattle.register_run.proofs.running.start_all.Goals as goal

pub loop-source-init : goal.loop-source-init
loop-source-init g c = record {
  counts = search rules;
  cases =
      start_begin _ _ _ _ _ c.into_iter-source-iterator.ensures.into_iter_gives.0 c.into_iter-rest.ensures.rest _
      c.requires.none;
}

pub loop-source-preserved : goal.loop-source-preserved
loop-source-preserved g c = record {
  counts = search rules;
  cases =
      start_more _ _ _ _ _ _ _ _ _ _ _ c.push_reserved.ensures.items c.start.ensures c.in-Some.ensures.steps.0
      c.in-Some-next.ensures.items c.loop-source.invariant.cases;
}

pub returns : goal.returns
returns g c =
    let none : length (into_iter_items c.loop-source.source-iterator) ≡ 0 =
    sym c.loop-source.source-iterator.rest.ok.0 ∙ c.in-None.ensures.steps.0 in record {
      len = search rules;
      cases = start_end _ _ _ _ _ none c.loop-source.invariant.cases;
    }
