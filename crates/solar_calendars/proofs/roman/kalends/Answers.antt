use Rattle.std.proofs.Common.{arith, to_z-of_z, FitsSigned, w32}
use Rattle.solar_calendars.proofs.Common.{signed_casts}
use Rattle.solar_calendars.proofs.roman.kalends.Goals as goal

pub returns-clause-value : goal.returns-clause-value
returns-clause-value c =
    let y : FitsSigned w32 c.args.year = c.ranges.year in
    let start = simp to_z-of_z at c.year-year.ensures.start in
    let months = simp to_z-of_z at c.year-year.ensures.months in
    let before = rw months at c.month_by_number-before.ensures.before in
    omega (arith, signed_casts, start, before, c.year-year.ensures.near)
