use Rattle.date_texts.proofs.CellLemmas.{found_date, since_first_in}
use Rattle.date_texts.proofs.laws.first_days.Goals as goal

pub returns-clause-since : goal.returns-clause-since
returns-clause-since c = λ since.
    let found = found_date c.date_on_day.result _ (c.date_on_day.ensures.dated.1 since) c.date_on_day.ensures.value in
    ∣ (found.0, found.1.0, found.1.1, found.1.2) ∣₁

pub returns-clause-before : goal.returns-clause-before
returns-clause-before c = λ before date of is day.
    before (since_first_in c.args.calendar c.args.day.number date of is day)
