use Rattle.written_dates.proofs.SumLemmas.{sums_stay}
use Rattle.written_dates.proofs.laws.sums_stay.Goals as goal

pub returns : goal.returns
returns c = sums_stay
