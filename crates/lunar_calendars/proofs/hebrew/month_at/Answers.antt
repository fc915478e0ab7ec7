use Rattle.std.proofs.Common.{arith, slice_index}
use Rattle.lunar_calendars.specs.Hebrew.{months_by_length}
use Rattle.lunar_calendars.proofs.MonthStartLemmas.{IsPlacedIn, month_of, index_of, placed_by}
use Rattle.lunar_calendars.proofs.hebrew.month_at.Goals as goal
use Rattle.lunar_calendars.proofs.hebrew.month_at.Goals.{After-starts_of_length-starts}

placed : (c : After-starts_of_length-starts) → IsPlacedIn (months_by_length c.args.leap c.args.days) c.args.place
    (slice_index c.starts_of_length-starts.result.now (index_of c.starts_of_length-starts.result.now c.args.place))
    (month_of (months_by_length c.args.leap c.args.days)
    (index_of c.starts_of_length-starts.result.now c.args.place)).number
placed c =
    placed_by c.args.leap c.args.days c.starts_of_length-starts.result.now c.args.place c.requires.length
    c.requires.inside c.starts_of_length-starts.ensures

pub overflow_sub-result : goal.overflow_sub-result
overflow_sub-result c = (placed (goal.at.overflow_sub-result c).After-starts_of_length-starts).after

pub overflow_cast-result : goal.overflow_cast-result
overflow_cast-result c = omega (arith, (placed (goal.at.overflow_cast-result c).After-starts_of_length-starts).near)

pub overflow_add-result : goal.overflow_add-result
overflow_add-result c = omega (arith, (placed (goal.at.overflow_add-result c).After-starts_of_length-starts).near)

pub returns-clause-last : goal.returns-clause-last
returns-clause-last c = grind (arith, placed)

pub returns-clause-sum : goal.returns-clause-sum
returns-clause-sum c = grind (arith, placed)

pub returns-clause-small : goal.returns-clause-small
returns-clause-small c = grind (arith, placed)
