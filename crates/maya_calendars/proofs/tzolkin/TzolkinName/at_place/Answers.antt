use Rattle.std.proofs.Common.{◌≡◌, ◌-◌, ap, arith}
use Rattle.std.specs.List.{slice_get}
use Rattle.maya_calendars.specs.TzolkinNames.{all_names}
use Rattle.maya_calendars.proofs.tzolkin.TzolkinName.at_place.Goals as goal

pub returns-in_default : goal.returns-in_default
returns-in_default c =
    let last : c.args.place ≡ 20 = omega arith in (omega arith, ap (λ place. slice_get all_names (place - 1)) last)
