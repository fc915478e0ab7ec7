use Rattle.register_run.proofs.Common.{◌≡◌, ◌+◌, ◌≤◌, ◌++◌, map, vec_len, vec_capacity, into_iter_items, into_iter_len}
use Rattle.register_run.proofs.Common.{end_of, output_of, ran_of}
use Rattle.register_run.proofs.running.report.Given as goal

abbrev pub invariant-loop-one : goal.invariant-loop-one
invariant-loop-one g l = record {
  room : (vec_len l.outputs + into_iter_len l.one-iterator ≤ vec_capacity l.outputs)
      × (vec_len l.ends + into_iter_len l.one-iterator ≤ vec_capacity l.ends)
      × (vec_len l.ran + into_iter_len l.one-iterator ≤ vec_capacity l.ran);
  outputs : l.outputs.items ++ map output_of (into_iter_items l.one-iterator) ≡ map output_of l.fn.ended_sources.items;
  ends : l.ends.items ++ map end_of (into_iter_items l.one-iterator) ≡ map end_of l.fn.ended_sources.items;
  ran : l.ran.items ++ map ran_of (into_iter_items l.one-iterator) ≡ map ran_of l.fn.ended_sources.items;
}
