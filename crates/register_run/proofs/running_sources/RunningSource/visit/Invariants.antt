use Rattle.register_run.proofs.Common.{◌≡◌, ◌≤◌, ◌+◌, case_of, popped}
use Rattle.register_run.proofs.running_sources.RunningSource.visit.Given as goal

abbrev pub invariant-loop : goal.invariant-loop
invariant-loop g l = record {
  case : case_of l.self ≡ case_of l.initial.self;
  few : popped l.self.stripes.items ≤ popped l.initial.self.stripes.items + l.counter;
}
