use Rattle.written_dates.proofs.RuleLemmas.{many_missing}
use Rattle.written_dates.proofs.stops.missing_in.Goals as goal

pub returns-in-None : goal.returns-in-None
returns-in-None c = many_missing _ c.in-None.ensures.none
