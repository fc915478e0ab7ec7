use Rattle.register_run.proofs.Common.{◌≡◌, ◌∙◌, ap, length, map, rules, sym, ended_case, into_iter_items, map-append}
use Rattle.register_run.proofs.StripeLemmas.{all_made, none_made, seen_more}
use Rattle.register_run.proofs.running.finish_all.Goals as goal

pub loop-running_source-init : goal.loop-running_source-init
loop-running_source-init g c = record {
  room = search rules;
  len = search rules;
  cases =
      none_made _ _ _ _ (ap (map ended_case) c.requires.none)
      c.into_iter-running_source-iterator.ensures.into_iter_gives.0;
}

pub loop-running_source-preserved : goal.loop-running_source-preserved
loop-running_source-preserved g c = record {
  room = search rules;
  len = search rules;
  cases =
      seen_more _ _ _ _ _ _ _ _ (ap (map ended_case) c.push_reserved.ensures.items ∙ map-append ended_case _ _)
      c.finish.ensures c.in-Some.ensures.steps.0
      c.loop-running_source.invariant.cases;
}

pub returns : goal.returns
returns g c =
    let none : length (into_iter_items c.loop-running_source.running_source-iterator) ≡ 0 =
    sym c.loop-running_source.running_source-iterator.rest.ok.0 ∙ c.in-None.ensures.steps.0 in record {
      len = search rules;
      cases = all_made _ _ _ _ none c.loop-running_source.invariant.cases;
    }
