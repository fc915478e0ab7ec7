use Rattle.std.proofs.Common.{◌≡◌, pos, arith}
use Rattle.std.proofs.lemmas.Int.{ints}
use Rattle.day_numbers.proofs.RulesLemmas.{year_from_one}
use Rattle.lunar_calendars.proofs.YearLengthLemmas.{year_start_is}
use Rattle.lunar_calendars.proofs.hebrew.HebrewRuledCalendar.year.Goals as goal

pub returns-clause-start : goal.returns-clause-start
returns-clause-start c =
    let opening = c.of_year-opening.result in
    let number : c.args.number ≡ pos opening.year =
    omega (arith, ints, c.of_year-opening.ensures, year_from_one c.args.number c.requires.has) in
    rw (number, ← year_start_is opening.year opening.low, ← opening.opens.0) (omega (arith, ints, opening.near))
