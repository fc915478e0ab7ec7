use Rattle.std.proofs.Common.{arith, to_z-of_z, FitsSigned, w32}
use Rattle.solar_calendars.proofs.Common.{signed_casts}
use Rattle.solar_calendars.proofs.RomanPlaceLemmas.{other_day}
use Rattle.solar_calendars.proofs.roman.day_before_kalends.Goals.{else-count-ge6-via-then-count-ge6+else-has_two_sixths}
use Rattle.solar_calendars.proofs.roman.day_before_kalends.Goals.{else-count-ge6-via-else-count-ge6}
use Rattle.solar_calendars.proofs.roman.day_before_kalends.Goals as goal

pub returns-else-count-ge6 : goal.returns-else-count-ge6
returns-else-count-ge6 c =
    let y : FitsSigned w32 c.args.year = c.ranges.year in
    let length = simp to_z-of_z at c.length_before.ensures in
    elim c.else-count-ge6.branch [
      | else-count-ge6-via-then-count-ge6+else-has_two_sixths w ↦
          omega (
            arith,
            signed_casts,
            other_day c.args.year c.args.month c.args.count c.length_before.result length
                (λ e. absurd (cc (simp to_z-of_z at w.has_two_sixths.ensures, w.if-has_two_sixths.false)))
                c.requires.count,
          )
      | else-count-ge6-via-else-count-ge6 w ↦
          omega (
            arith,
            signed_casts,
            other_day c.args.year c.args.month c.args.count c.length_before.result length
                (λ e. omega arith) c.requires.count,
          )
    ]
