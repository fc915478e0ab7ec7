use Rattle.std.proofs.Common.{refl}
use Rattle.lunar_calendars.proofs.NewYearLemmas.{new_year_by}
use Rattle.lunar_calendars.proofs.hebrew.Opening.of_year.Goals as goal

pub invariant_of-result-clause-opens : goal.invariant_of-result-clause-opens
invariant_of-result-clause-opens c =
    (new_year_by c.args.year _ c.requires.low (rw c.days_from_monday.ensures refl), refl, refl, refl)
