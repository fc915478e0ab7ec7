use Rattle.church_days.proofs.LawLemmas.{one_name}
use Rattle.church_days.proofs.laws.one_name.Goals as goal

pub returns : goal.returns
returns c = one_name
