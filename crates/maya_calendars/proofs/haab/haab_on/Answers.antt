use Rattle.std.proofs.Common.{◌≡◌, ◌-◌, ◌%◌, refl, subst}
use Rattle.day_numbers.specs.Numbered.{IsNumbered}
use Rattle.maya_calendars.specs.HaabNames.{all_months}
use Rattle.maya_calendars.proofs.HaabLemmas.{haab_is}
use Rattle.maya_calendars.proofs.haab.haab_on.Goals as goal

pub returns-clause-value : goal.returns-clause-value
returns-clause-value c =
    subst (λ h. ((c.number_on-place.result - 1) % 20 ≡ h.0) × IsNumbered all_months h.1 c.numbered.result)
    (haab_is c.args.day.number _ _ _ _ c.number_on-place.ensures.value refl refl refl) (refl, c.numbered.ensures)
