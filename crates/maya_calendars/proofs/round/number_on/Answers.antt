use Rattle.std.proofs.Common.{◌-◌, arith}
use Rattle.std.proofs.lemmas.Int.{ints}
use Rattle.maya_calendars.proofs.RoundLemmas.{number_from_remainder}
use Rattle.maya_calendars.proofs.round.number_on.Goals as goal

pub returns-clause-value : goal.returns-clause-value
returns-clause-value c =
    number_from_remainder c.args.length (c.args.first - 1) c.args.first 10_000_000 _ c.args.day.number
    (omega (arith, ints)) (omega arith) (omega arith)
