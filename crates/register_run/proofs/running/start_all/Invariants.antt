use Rattle.register_run.proofs.Common.{◌≡◌, ◌+◌, ◌≤◌, ◌++◌, map, vec_len, vec_capacity, into_iter_items, into_iter_len}
use Rattle.register_run.proofs.Common.{case_of, cases}
use Rattle.register_run.proofs.running.start_all.Given as goal

abbrev pub invariant-loop-source : goal.invariant-loop-source
invariant-loop-source g l = record {
  counts : (vec_len l.running_sources + into_iter_len l.source-iterator ≤ vec_capacity l.running_sources)
      × (vec_len l.running_sources + into_iter_len l.source-iterator ≡ vec_len l.fn.sources)
      × (into_iter_len l.source-iterator ≡ into_iter_len l.rest);
  cases : map case_of l.running_sources.items ++ cases l.context.setup.now (into_iter_items l.source-iterator)
      (into_iter_items l.rest)
      ≡ cases l.context.setup.now l.fn.sources.items l.fn.outputs.items;
}
