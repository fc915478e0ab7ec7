use Rattle.register_run.proofs.Common.{rules}
use Rattle.register_run.proofs.RunningSourceLemmas.{wrote_same}
use Rattle.register_run.proofs.running_sources.RunningSource.visit.Goals as goal

pub invariant_of-self : goal.invariant_of-self
invariant_of-self g c = search (rules, wrote_same)
