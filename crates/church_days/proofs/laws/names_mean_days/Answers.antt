use Rattle.church_days.proofs.LawLemmas.{names_mean_days, nameless_days}
use Rattle.church_days.proofs.laws.names_mean_days.Goals as goal

pub returns : goal.returns
returns c = record { named = names_mean_days; nameless = nameless_days }
