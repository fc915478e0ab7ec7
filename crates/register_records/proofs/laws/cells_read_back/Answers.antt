use Rattle.register_records.proofs.Common.{Ok, sym, subst, IsDateText, IsDayNumber, IsOutcome, accepted}
use Rattle.register_records.proofs.laws.cells_read_back.Goals as goal
use Rattle.date_texts.specs.Dates.{calendar_of_date}
use Rattle.date_texts.specs.Cells.{no_date, on_date}

pub returns : goal.returns
returns c calendar n texts within named (on_date date of is day text) some =
    let law = c.canonical_texts_read_back.ensures in
    let written = subst (λ x. IsDateText (calendar_of_date date) x date) (sym text) (law date) in
    let dated = subst (λ c. IsDateText c texts.date date) of written in
    subst (λ m. IsOutcome (Ok texts) (Ok m)) day
    (accepted calendar date (record { named = named; dated = dated }) is (subst IsDayNumber (sym day) within))
returns c calendar n texts within named (no_date none empty) some = absurd (some empty)
