use Rattle.std.proofs.Common.{◌≡◌, arith, pos, ◌+ℤ◌, ◌-ℤ◌, to_z, of_z, w32, unsigned_abs}
use Rattle.solar_calendars.proofs.Common.{ints}
use Rattle.solar_calendars.proofs.GregorianLemmas.{in_years, year_short}
use Rattle.solar_calendars.proofs.gregorian.year_and_days_before.Goals as goal

pub returns : goal.returns
returns c =
    let years = c.years_in-years in
    let year : to_z w32 (of_z w32 (to_z w32 years.result.0 -ℤ pos 9_999)) ≡ pos years.result.0 -ℤ pos 9_999 =
    omega (arith, ints, years.ensures.sum, years.ensures.inside) in
    let placed =
    in_years _ c.args.day (unsigned_abs (c.args.day +ℤ pos 3_652_424)) years.result.0 years.result.1 year
    (omega (arith, ints)) (omega (arith, ints, years.ensures.sum)) (omega (arith, ints, years.ensures.inside)) in
    record {
      near = omega (arith, ints, years.ensures.sum);
      value = placed.0;
      within = placed.1;
      few = omega (arith, placed.1, year_short (pos years.result.0 -ℤ pos 9_999));
    }
