use Rattle.register_run.proofs.Common.{◌≡◌, ◌+◌, ◌≤◌, ◌++◌, map, vec_len, vec_capacity, into_iter_items, into_iter_len}
use Rattle.register_run.proofs.Common.{case_of, ended_case}
use Rattle.register_run.proofs.running.finish_all.Given as goal

abbrev pub invariant-loop-running_source : goal.invariant-loop-running_source
invariant-loop-running_source g l = record {
  room : vec_len l.ended_sources + into_iter_len l.running_source-iterator ≤ vec_capacity l.ended_sources;
  len : vec_len l.ended_sources + into_iter_len l.running_source-iterator ≡ vec_len l.fn.running_sources;
  cases : map ended_case l.ended_sources.items ++ map case_of (into_iter_items l.running_source-iterator)
      ≡ map case_of l.fn.running_sources.items;
}
