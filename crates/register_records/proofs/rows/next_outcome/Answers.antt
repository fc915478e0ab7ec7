use Rattle.register_records.proofs.Common.{∥∥₁_map}
use Rattle.register_records.proofs.OutcomeLemmas.{known_outcome, outcome_of_same}
use Rattle.register_records.proofs.rows.next_outcome.Goals as goal

pub returns-then-same_date : goal.returns-then-same_date
returns-then-same_date c =
    known_outcome c.one_calendar.ensures c.one_date_text.ensures c.one_cell.ensures _ _
    (∥∥₁_map c.requires.known (λ is. outcome_of_same _ _ _ (c.requires.same_date c.if-same_date.true) is))
