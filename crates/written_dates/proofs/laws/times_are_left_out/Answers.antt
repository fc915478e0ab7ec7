use Rattle.written_dates.proofs.TimeLemmas.{dated_whole, times_are_found, times_are_left_out, times_stand_last, undated_texts_stay}
use Rattle.written_dates.proofs.laws.times_are_left_out.Goals as goal

pub returns-clause-out : goal.returns-clause-out
returns-clause-out c = times_are_left_out

pub returns-clause-whole : goal.returns-clause-whole
returns-clause-whole c = dated_whole

pub returns-clause-undated : goal.returns-clause-undated
returns-clause-undated c = undated_texts_stay

pub returns-clause-last : goal.returns-clause-last
returns-clause-last c = times_stand_last

pub returns-clause-found : goal.returns-clause-found
returns-clause-found c = times_are_found
