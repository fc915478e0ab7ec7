use Rattle.std.proofs.Common.{◌∙◌, sym}
use Rattle.std.proofs.lemmas.Bool.{false≢true}
use Rattle.church_days.proofs.ComputedLemmas.{first_here, first_later, first_none}
use Rattle.church_days.proofs.NameLemmas.{found_here, found_later, found_none}
use Rattle.church_days.proofs.names.ChurchDate.name_among.Goals as goal

pub returns-then-is_meant-clause-first : goal.returns-then-is_meant-clause-first
returns-then-is_meant-clause-first c =
    c.names.invariant.first _ (found_here c.args.self.now.church c.args.self.now.year c.args.self.now.date
    c.args.names.now c.names.name-index
    c.names-test.true (c.is_meant.ensures.decided.0 c.if-is_meant.true))

pub returns-then-is_meant-clause-computed : goal.returns-then-is_meant-clause-computed
returns-then-is_meant-clause-computed c =
    sym (sym c.names.invariant.computed
    ∙ first_here c.args.self.now.church c.args.self.now.year (c.args.self.now.date.month, c.args.self.now.date.day)
    c.args.names.now c.names.name-index
    c.names-test.true (sym c.is_meant.ensures.computed ∙ c.if-is_meant.true))

pub names-preserved : goal.names-preserved
names-preserved c = record {
  first = λ found first. c.names.invariant.first found (found_later c.args.self.now.church c.args.self.now.year
      c.args.self.now.date
      c.args.names.now c.names.name-index found c.names-test.true c.args.self.now.own
      (λ h. false≢true (sym c.if-is_meant.false ∙ c.is_meant.ensures.decided.1 h)) first);
  computed = sym (first_later c.args.self.now.church c.args.self.now.year (
    c.args.self.now.date.month,
    c.args.self.now.date.day,
  ) c.args.names.now
      c.names.name-index c.names-test.true (sym c.is_meant.ensures.computed ∙ c.if-is_meant.false))
      ∙ c.names.invariant.computed;
}

pub returns-clause-first : goal.returns-clause-first
returns-clause-first c =
    c.names.invariant.first _ (found_none c.args.self.now.church c.args.self.now.date c.args.names.now
    c.names.name-index
    c.names-test.false)

pub returns-clause-computed : goal.returns-clause-computed
returns-clause-computed c =
    sym (sym c.names.invariant.computed
    ∙ first_none c.args.self.now.church c.args.self.now.year (c.args.self.now.date.month, c.args.self.now.date.day)
    c.args.names.now c.names.name-index
    c.names-test.false)
