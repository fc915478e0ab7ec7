use Rattle.written_dates.proofs.ReadLawLemmas.{decade_days_agree, weekdays_agree, weekdays_only_test}
use Rattle.written_dates.proofs.WeekdayLawLemmas.{numbered_weekdays, other_weekdays_stop}
use Rattle.written_dates.proofs.laws.weekdays_agree.Goals as goal

pub returns-clause-agree : goal.returns-clause-agree
returns-clause-agree c = weekdays_agree

pub returns-clause-numbered : goal.returns-clause-numbered
returns-clause-numbered c = numbered_weekdays

pub returns-clause-other : goal.returns-clause-other
returns-clause-other c = other_weekdays_stop

pub returns-clause-test : goal.returns-clause-test
returns-clause-test c = weekdays_only_test

pub returns-clause-decade : goal.returns-clause-decade
returns-clause-decade c = decade_days_agree
