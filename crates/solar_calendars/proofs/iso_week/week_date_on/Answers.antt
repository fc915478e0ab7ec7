use Rattle.std.proofs.Common.{arith, rules, to_z-of_z, FitsSigned, w32, w64, ◌+ℤ◌, pos}
use Rattle.std.proofs.lemmas.Option.{IfSome_then}
use Rattle.solar_calendars.proofs.Common.{signed_arith}
use Rattle.solar_calendars.proofs.IsoWeekLemmas.{week_date_is}
use Rattle.solar_calendars.proofs.iso_week.week_date_on.Goals as goal

pub returns-clause-value : goal.returns-clause-value
returns-clause-value c =
    let n : FitsSigned w64 c.number-number.result = search rules in
    let m : FitsSigned w64 c.monday_of_week-monday.result = search rules in
    let y : FitsSigned w32 c.year_and_days_before-year.result.0 = search rules in
    let thursday : FitsSigned w64 (c.monday_of_week-monday.result +ℤ pos 3) = omega (arith, signed_arith) in
    let monday = simp to_z-of_z at c.monday_of_week-monday.ensures in
    let place = simp to_z-of_z at c.year_and_days_before-year.ensures.value in
    let days = simp to_z-of_z at c.weekday_from.ensures.value in
    let value = simp to_z-of_z at c.new.ensures.value in
    let date =
    week_date_is c.number-number.result c.monday_of_week-monday.result c.year_and_days_before-year.result.0
    c.year_and_days_before-year.result.1 c.weekday_from.result monday place
    c.year_and_days_before-year.ensures.within days in
    IfSome_then c.new.result value (λ d e. rw (e.0, e.1, e.2, ← c.number-number.ensures.value) date)
