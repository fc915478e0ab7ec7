use Rattle.written_dates.proofs.ReadLawLemmas.{days_to_days_stay, mixed_signs_stay}
use Rattle.written_dates.proofs.laws.mixed_signs_stay.Goals as goal

pub returns-clause-numbers : goal.returns-clause-numbers
returns-clause-numbers c = mixed_signs_stay

pub returns-clause-days : goal.returns-clause-days
returns-clause-days c = days_to_days_stay
