use Rattle.std.proofs.Common.{subst}
use Rattle.day_numbers.specs.Rules.{HasDayOf}
use Rattle.day_numbers.proofs.DateLemmas.{only_found, rules_have_days, rules_one_date}
use Rattle.day_numbers.proofs.rules.date_by_rules.Goals as goal

pub returns-clause-only : goal.returns-clause-only
returns-clause-only g c =
    let rules = g.C.RuledCalendar.rules in
    only_found _ _ (rules_one_date rules) c.args.day.number c.some_date_by_rules.result
    (λ d h e. c.some_date_by_rules.ensures.dated.1 (subst (HasDayOf rules) e (rules_have_days rules d h)))
    c.some_date_by_rules.ensures.value
