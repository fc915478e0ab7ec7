use Rattle.register_run.proofs.Common.{◌<◌, length}
use Rattle.register_run.proofs.running_sources.next_open.Given as goal

abbrev pub invariant-loop : goal.invariant-loop
invariant-loop l = l.next < length l.stripes
