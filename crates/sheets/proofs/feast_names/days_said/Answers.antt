use Rattle.std.proofs.Common.{◌≡◌, FitsSigned, arith, rules, w16}
use Rattle.std.proofs.lemmas.Int.{ints}
use Rattle.sheets.proofs.MeaningLemmas.{fits_mag, same_days}
use Rattle.sheets.proofs.feast_names.days_said.Goals as goal
use Rattle.sheets.proofs.feast_names.days_said.Goals.{then-days-via-then-days}
use Rattle.sheets.proofs.feast_names.days_said.Goals.{then-days-via-else-days+then-days-gt-MOST_DAYS}

pub returns-then-days-clause-none : goal.returns-then-days-clause-none
returns-then-days-clause-none c none days (few, is) =
    let fits : FitsSigned w16 c.in_ok-days.days = search rules in
    let same : c.in_ok-days.days ≡ days
    = same_days c.args.text.now c.in_ok-days.days days (fits_mag c.in_ok-days.days fits) few c.in_ok-days.ensures.some is in
    elim c.then-days.branch [
      | then-days-via-then-days w ↦ absurd (omega (arith, ints, few.0, few.1, same, w.if-days))
      | then-days-via-else-days+then-days-gt-MOST_DAYS w ↦
          absurd (omega (arith, ints, few.0, few.1, same, w.if-days-gt-MOST_DAYS))
    ]
