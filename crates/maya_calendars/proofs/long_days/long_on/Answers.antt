use Rattle.std.proofs.Common.{refl, rules}
use Rattle.day_numbers.proofs.DateLemmas.{only_found}
use Rattle.maya_calendars.specs.LongCounts.{IsLongCount, long_day}
use Rattle.maya_calendars.proofs.LongCountLemmas.{one_long_count}
use Rattle.maya_calendars.proofs.long_days.long_on.Goals as goal

pub returns-clause-only : goal.returns-clause-only
returns-clause-only c =
    only_found IsLongCount long_day one_long_count c.args.day.number _ (λ count h e. refl) (search rules)
