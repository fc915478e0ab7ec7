use Rattle.written_dates.proofs.LawLemmas.{they_stay, minus_stays}
use Rattle.written_dates.proofs.laws.register_dates_stay.Goals as goal

pub returns-clause-year : goal.returns-clause-year
returns-clause-year c = they_stay

pub returns-clause-minus : goal.returns-clause-minus
returns-clause-minus c = minus_stays
