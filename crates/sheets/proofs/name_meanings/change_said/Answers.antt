use Rattle.std.proofs.Common.{◌∙◌, FitsSigned, arith, refl, w64, rules, to_z-of_z}
use Rattle.sheets.proofs.name_meanings.change_said.Goals as goal

pub returns-in_err-text-clause-none : goal.returns-in_err-text-clause-none
returns-in_err-text-clause-none c none from says = absurd (c.in_err-text.ensures.cases says.text says.is)

pub returns-in-Ok-day_of_date-clause-some : goal.returns-in-Ok-day_of_date-clause-some
returns-in-Ok-day_of_date-clause-some c =
    let day = c.in-Ok-day_of_date.ensures in
    let fits : FitsSigned w64 c.number.result = omega (arith, c.number.ensures.in_range) in
    simp (to_z-of_z, fits) (record {
      no_calendar = c.requires;
      text = c.in_ok-text.text.now;
      is = search rules;
      date = c.in-Ok.date;
      says = (c.read_date.ensures.value c.in-Ok.date).0 c.in-Ok.is;
      is_date = (day.succeeds.0 refl).0;
      day = c.number.ensures.value ∙ day.value;
      is_day = c.number.ensures.in_range;
    })
