use Rattle.written_dates.proofs.ReadLawLemmas.{minuses_are_not_read, minuses_stay}
use Rattle.written_dates.proofs.MinusLemmas.{hyphens_are_minuses}
use Rattle.written_dates.proofs.laws.minuses_stay.Goals as goal

pub returns-clause-unread : goal.returns-clause-unread
returns-clause-unread c = minuses_are_not_read

pub returns-clause-stays : goal.returns-clause-stays
returns-clause-stays c = minuses_stay

pub returns-clause-found : goal.returns-clause-found
returns-clause-found c = hyphens_are_minuses
