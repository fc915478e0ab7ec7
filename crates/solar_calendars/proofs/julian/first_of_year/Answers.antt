use Rattle.std.proofs.Common.{arith, rules, pos, ◌+ℤ◌, unsigned_abs, to_z-of_z, FitsSigned, w32, w64}
use Rattle.solar_calendars.proofs.Common.{ints}
use Rattle.solar_calendars.proofs.JulianLemmas.{julian_sum, before_near}
use Rattle.solar_calendars.proofs.julian.first_of_year.Goals as goal

pub returns : goal.returns
returns c =
    let f : FitsSigned w32 c.args.year = c.ranges.year in
    let b : FitsSigned w64 c.years_before.result = search rules in
    let before_is = simp to_z-of_z at c.years_before.ensures in
    let near = before_near c.args.year c.requires.near in
    record {
      value = julian_sum c.args.year _ (unsigned_abs (c.years_before.result +ℤ pos 100_000)) c.requires.has
          (omega (arith, ints, near, before_is)) (omega (arith, ints, near, before_is));
      near = omega (arith, ints, near, before_is);
    }
