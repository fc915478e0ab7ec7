-- Laws of the haab and the tzolkin.
use Rattle.std.specs.Prelude.{◌≤◌, ℤ}
use Rattle.maya_calendars.specs.HaabNames.{haab_of}
use Rattle.maya_calendars.specs.TzolkinNames.{tzolkin_of}

-- the day of a haab is 19 at most
abbrev pub HaabDaysInRange : Type 0
HaabDaysInRange = (day : ℤ) → (haab_of day).0 ≤ 19

-- the number of a tzolkin is 13 at most
abbrev pub TzolkinNumbersInRange : Type 0
TzolkinNumbersInRange = (day : ℤ) → (tzolkin_of day).0 ≤ 13
