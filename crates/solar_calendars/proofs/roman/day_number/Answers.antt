use Rattle.std.proofs.Common.{arith, rules, to_z-of_z, FitsSigned, w32, refl}
use Rattle.solar_calendars.specs.private.RomanPlaces.{HasPlace}
use Rattle.solar_calendars.proofs.Common.{HasYear, signed_arith, without_zero}
use Rattle.solar_calendars.proofs.RomanPlaceLemmas.{month_of, placed, place_near, number}
use Rattle.solar_calendars.proofs.roman.day_number.Goals as goal

pub returns-then-year-eq0-clause-valid : goal.returns-then-year-eq0-clause-valid
returns-then-year-eq0-clause-valid c = search (rules, month_of)

pub overflow_add-result : goal.overflow_add-result
overflow_add-result c =
    let f : FitsSigned w32 c.args.year = c.ranges.year in
    let has : HasYear without_zero c.args.year = search rules in
    let p : HasPlace c.args.year c.args.month c.args.name = (simp to_z-of_z at c.in-Some.ensures.valid).0 refl in
    omega (
      arith,
      signed_arith,
      c.kalends-kalends.ensures.near,
      simp to_z-of_z at c.in-Some.ensures.value,
      place_near c.args.year c.args.month c.args.name has (omega arith) (omega arith) p,
    )

pub returns-in-Some-clause-valid : goal.returns-in-Some-clause-valid
returns-in-Some-clause-valid c = search (rules, to_z-of_z, placed)

pub returns-in-Some-clause-value : goal.returns-in-Some-clause-value
returns-in-Some-clause-value c =
    let f : FitsSigned w32 c.args.year = c.ranges.year in
    let has : HasYear without_zero c.args.year = search rules in
    let p : HasPlace c.args.year c.args.month c.args.name = (simp to_z-of_z at c.in-Some.ensures.valid).0 refl in
    let near = place_near c.args.year c.args.month c.args.name has (omega arith) (omega arith) p in
    let kalends_is = simp to_z-of_z at c.kalends-kalends.ensures.value in
    let n = number c.args.year c.args.month c.args.name p in
    omega (
      arith,
      signed_arith,
      c.kalends-kalends.ensures.near,
      simp to_z-of_z at c.in-Some.ensures.value,
      near,
      kalends_is,
      n,
    )

pub returns-in-None-clause-valid : goal.returns-in-None-clause-valid
returns-in-None-clause-valid c = search (rules, to_z-of_z, placed)
