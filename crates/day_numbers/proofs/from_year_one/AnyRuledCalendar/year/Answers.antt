use Rattle.std.proofs.Common.{arith}
use Rattle.std.proofs.lemmas.Int.{ints}
use Rattle.day_numbers.specs.Rules.{total_days}
use Rattle.day_numbers.proofs.RulesLemmas.{sum_is_start, year_from_one}
use Rattle.day_numbers.proofs.from_year_one.AnyRuledCalendar.year.Goals as goal

pub returns-clause-start : goal.returns-clause-start
returns-clause-start g c =
    sum_is_start g.C.FromYearOne.epoch_day
    (λ y. total_days (g.C.Years.YearRule.months_of y)) c.args.number _ c.epoch.result _
    c.days_of_years-days_before.result c.days_of_years-days_before.ensures.value c.epoch.ensures.value
    (omega (arith, ints, year_from_one c.args.number c.requires.has)) (omega (arith, ints))
