use Rattle.register_run.proofs.Common.{◌≡◌, map, vec_len, case_of}
use Rattle.register_run.proofs.running.visit_until_ended.Given as goal

abbrev pub invariant-loop : goal.invariant-loop
invariant-loop g l = record {
  len : vec_len l.running_sources ≡ vec_len l.initial.running_sources;
  cases : map case_of l.running_sources.items ≡ map case_of l.initial.running_sources.items;
}
