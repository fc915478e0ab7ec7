use Rattle.register_records.proofs.Common.{Keeps}
use Rattle.register_records.proofs.retrying.RetryingRead.read.Given as goal

abbrev pub invariant-tries : goal.invariant-tries
invariant-tries g l = Keeps (g.R.Read.remaining l.fn.self.inner) (g.R.Read.remaining l.self.inner)
