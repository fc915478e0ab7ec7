use Rattle.std.proofs.Common.{◌∙◌, subst}
use Rattle.std.specs.Prelude.{IsTrue}
use Rattle.day_numbers.specs.Rules.{are_months}
use Rattle.date_spans.proofs.LawLemmas.{by_reckoning, year_exact, year_forwards}
use Rattle.date_spans.proofs.laws.years_are_exact.Goals as goal

pub returns-clause-exact : goal.returns-clause-exact
returns-clause-exact c = λ few rules e. year_exact rules c.args.year
    (subst (λ months. IsTrue (are_months months))
    (c.months_of.ensures.value ∙ by_reckoning c.args.calendar rules c.args.year e)
    c.months_of.ensures.numbered)

pub returns-clause-forwards : goal.returns-clause-forwards
returns-clause-forwards c = λ few rules e. year_forwards rules c.args.year
    (subst (λ months. IsTrue (are_months months))
    (c.months_of.ensures.value ∙ by_reckoning c.args.calendar rules c.args.year e)
    c.months_of.ensures.numbered)
