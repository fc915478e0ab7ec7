use Rattle.std.proofs.Common.{arith, pos, ◌-ℤ◌, to_z-of_z, FitsSigned, w64}
use Rattle.solar_calendars.proofs.Common.{signed_arith}
use Rattle.solar_calendars.proofs.GregorianLemmas.{jiff_day}
use Rattle.solar_calendars.proofs.gregorian.jiff_date_on.Goals as goal

pub returns : goal.returns
returns c =
    let n : FitsSigned w64 c.args.day = c.ranges.day in
    let since : FitsSigned w64 (c.args.day -ℤ pos 719_163) = omega (arith, signed_arith) in
    let value = simp to_z-of_z at (rw c.unwrap-date.ensures at c.from_unix_epoch_day.ensures.value) in
    rw c.from_plain.ensures (omega (arith, signed_arith, jiff_day c.unwrap-date.result, value))
