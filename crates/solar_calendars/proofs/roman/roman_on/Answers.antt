use Rattle.std.proofs.Common.{arith, rules, to_z-of_z, FitsSigned, w32}
use Rattle.solar_calendars.proofs.Common.{signed_arith}
use Rattle.solar_calendars.proofs.RomanPlaceLemmas.{year_near, names_day, only_roman}
use Rattle.solar_calendars.proofs.roman.roman_on.Goals as goal

pub roman_date-requires-clause-near : goal.roman_date-requires-clause-near
roman_date-requires-clause-near c =
    let f : FitsSigned w32 c.year.result = search rules in
    let v = rw c.unwrap-date.ensures at c.date_on.ensures.value in
    let near = year_near c.unwrap-date.result.year c.args.day.number c.unwrap-date.result.month
    c.unwrap-date.result.day v.0 v.1 c.args.day.in_range in
    simp to_z-of_z (omega (arith, signed_arith, near, c.year.ensures, c.unwrap-date.result.year_in))

pub returns : goal.returns
returns c =
    let f : FitsSigned w32 c.year.result = search rules in
    let v = rw c.unwrap-date.ensures at c.date_on.ensures.value in
    let e = rw (c.year.ensures, c.month.ensures, c.day.ensures) at (simp to_z-of_z at c.roman_date.ensures) in
    let named = names_day c.roman_date.result c.unwrap-date.result.year c.args.day.number c.unwrap-date.result.month
    c.unwrap-date.result.day e v.0 v.1 in
    record {
      valid = named.0;
      value = named.1;
      only = only_roman c.roman_date.result c.unwrap-date.result.year c.args.day.number c.unwrap-date.result.month
          c.unwrap-date.result.day e v.0 v.1;
    }
