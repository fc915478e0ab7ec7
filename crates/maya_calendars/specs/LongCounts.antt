-- The long count: five places that weigh 144000, 7200, 360, 20 and 1 days from its epoch on (Reingold
-- and Dershowitz, Calendrical Calculations, "The Mayan Calendars").
use Rattle.std.specs.Prelude.{◌+◌, ◌*◌, ◌≤◌, ℤ, pos, ◌+ℤ◌}
use Rattle.maya_calendars.specs.Rounds.{epoch}
use Rattle.maya_calendars.specs.declared.long_count.LongCount.{LongCount}

-- twenty kin are a uinal, eighteen uinal a tun, twenty tun a katun, and twenty katun a baktun
abbrev pub IsLongCount : LongCount → Type 0
IsLongCount c = (c.katun ≤ 19) × (c.tun ≤ 19) × (c.uinal ≤ 17) × (c.kin ≤ 19)

-- the day number: the epoch and the weighted sum of the places
abbrev pub long_day : LongCount → ℤ
long_day c = epoch +ℤ pos (144_000 * c.baktun + 7_200 * c.katun + 360 * c.tun + 20 * c.uinal + c.kin)
