use Rattle.written_dates.proofs.StayLemmas.{written_texts_stay}
use Rattle.written_dates.proofs.laws.written_texts_stay.Goals as goal

pub returns : goal.returns
returns c = written_texts_stay
