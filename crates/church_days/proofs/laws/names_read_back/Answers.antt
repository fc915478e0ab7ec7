use Rattle.church_days.proofs.TextLemmas.{names_read_back}
use Rattle.church_days.proofs.laws.names_read_back.Goals as goal

pub returns : goal.returns
returns c = names_read_back
