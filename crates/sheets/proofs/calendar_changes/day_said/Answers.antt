use Rattle.std.proofs.Common.{ℕ, List, refl, subst}
use Rattle.date_texts.specs.DateText.{IsDateText}
use Rattle.sheets.proofs.calendar_changes.day_said.Goals as goal

pub returns-in-Ok-day_of_date-clause-some : goal.returns-in-Ok-day_of_date-clause-some
returns-in-Ok-day_of_date-clause-some c =
    let (same, utf8) = c.in-Ok.ensures.cases in
    let date = c.in-Ok-read_date.date in
    let day = c.in-Ok-day_of_date.ensures in
    record {
      is_text = utf8;
      date = date;
      says = subst (λ (text : List ℕ). IsDateText c.args.calendar text date) same
          ((c.read_date.ensures.value date).0 c.in-Ok-read_date.is);
      is_date = (day.succeeds.0 refl).0;
      is_its = day.value;
      is_day = c.in-Ok-day_of_date.day.in_range;
    }
