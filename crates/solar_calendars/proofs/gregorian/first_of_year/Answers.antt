use Rattle.std.proofs.Common.{arith, pos, ◌-ℤ◌, to_z-of_z, FitsSigned, w64, refl}
use Rattle.solar_calendars.proofs.Common.{signed_arith}
use Rattle.solar_calendars.proofs.GregorianLemmas.{first_is}
use Rattle.solar_calendars.proofs.gregorian.first_of_year.Goals as goal

pub returns-clause-value : goal.returns-clause-value
returns-clause-value c =
    let n : FitsSigned w64 c.args.year = c.ranges.year in
    let years : FitsSigned w64 (c.args.year -ℤ pos 1) = omega (arith, signed_arith) in
    let leap_is = simp to_z-of_z at c.leap_days.ensures.value in
    first_is c.args.year (c.args.year -ℤ pos 1) c.leap_days.result _ refl leap_is (omega (arith, signed_arith))
