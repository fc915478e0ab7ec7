use Rattle.written_dates.proofs.AlikeLemmas.{signs_only_part}
use Rattle.written_dates.proofs.laws.signs_only_part.Goals as goal

pub returns : goal.returns
returns c = signs_only_part
