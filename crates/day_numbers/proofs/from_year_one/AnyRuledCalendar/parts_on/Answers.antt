use Rattle.std.proofs.Common.{◌≡◌, suc, pos, to_z, w32, ◌+◌, arith}
use Rattle.std.proofs.lemmas.Int.{ints}
use Rattle.day_numbers.proofs.RulesLemmas.{day_from_one}
use Rattle.day_numbers.proofs.from_year_one.AnyRuledCalendar.parts_on.Goals as goal

pub returns-clause-day : goal.returns-clause-day
returns-clause-day g c =
    let before = c.years_in-years_before in
    let year : to_z w32 (before.result.0 + 1) ≡ pos (suc before.result.0) = omega (arith, ints) in
    rw year (day_from_one g.C.FromYearOne.epoch_day c.epoch.result c.args.day g.C.Years.YearRule.months_of
    before.result.0 _ before.result.1 c.month_at-month.result.0 c.month_at-month.result.1 before.ensures.sum
    c.month_at-month.ensures.sum c.epoch.ensures.value (omega (arith, ints)))
