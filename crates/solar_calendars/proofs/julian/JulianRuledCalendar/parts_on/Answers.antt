use Rattle.std.proofs.Common.{arith, rules, to_z-of_z, FitsSigned, w32, w64}
use Rattle.solar_calendars.proofs.Common.{ints}
use Rattle.solar_calendars.proofs.JulianLemmas.{julian_date}
use Rattle.solar_calendars.proofs.julian.JulianRuledCalendar.parts_on.Goals as goal

pub returns : goal.returns
returns c =
    let f : FitsSigned w32 c.year_after.result = search rules in
    let n : FitsSigned w64 c.args.day = c.ranges.day in
    let before = simp to_z-of_z at c.year_after.ensures.value in
    let month = c.month_at-month in
    let dated =
    julian_date c.args.day c.year_after.result _ month.result.0
    month.result.1 c.year_after.ensures.has (omega (arith, ints)) (omega (arith, ints, before)) month.ensures.first
    month.ensures.last month.ensures.sum in
    record {
      year = search rules;
      small = month.ensures.small;
      date = simp to_z-of_z dated.0;
      day = simp to_z-of_z dated.1;
    }
