-- The tzolkin, two rounds side by side.
use Rattle.std.proofs.Common.{pos, ◌+ℤ◌, ◌-ℤ◌, refl, arith}
use Rattle.maya_calendars.specs.Laws.{TzolkinNumbersInRange}
use Rattle.maya_calendars.specs.Rounds.{epoch, StepsOnEachDay}
use Rattle.maya_calendars.specs.TzolkinNames.{tzolkin_after, tzolkin_of}
use Rattle.maya_calendars.proofs.RoundLemmas.{place_below, round_number_is, round_number_each_day}

-- the tzolkin moves one place on each day
pub tzolkin_each_day : StepsOnEachDay tzolkin_after tzolkin_of
tzolkin_each_day day =
    cc (round_number_each_day 13 3 4 refl (omega arith) day, round_number_each_day 20 19 20 refl (omega arith) day)

pub tzolkin_numbers : TzolkinNumbersInRange
tzolkin_numbers day =
    grind (arith, place_below 13 ((day -ℤ epoch) +ℤ pos 3) (omega arith), round_number_is 13 3 4 day refl (omega arith))
