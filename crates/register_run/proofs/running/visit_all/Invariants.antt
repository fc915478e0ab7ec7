use Rattle.register_run.proofs.Common.{◌≡◌, map, vec_len, case_of}
use Rattle.register_run.proofs.running.visit_all.Given as goal

abbrev pub invariant-loop-i : goal.invariant-loop-i
invariant-loop-i g l = record {
  end : vec_len l.running_sources ≡ l.i-end;
  len : vec_len l.running_sources ≡ vec_len l.initial.running_sources;
  cases : map case_of l.running_sources.items ≡ map case_of l.initial.running_sources.items;
}
