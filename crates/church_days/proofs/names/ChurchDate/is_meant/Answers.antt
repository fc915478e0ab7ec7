use Rattle.std.proofs.Common.{[], sym}
use Rattle.std.proofs.lemmas.Bool.{false≢true}
use Rattle.church_days.proofs.ComputedLemmas.{means_found}
use Rattle.church_days.proofs.NameLemmas.{means_date}
use Rattle.church_days.proofs.TestLemmas.{never_meant}
use Rattle.church_days.specs.DayNames.{name}
use Rattle.church_days.proofs.names.ChurchDate.is_meant.Goals as goal

pub returns-then-not-may_be-clause-decided : goal.returns-then-not-may_be-clause-decided
returns-then-not-may_be-clause-decided c = (
  λ e. absurd (false≢true e),
  λ falls. absurd (c.may_be.ensures c.if-not-may_be.true falls),
)

pub returns-then-not-may_be-clause-computed : goal.returns-then-not-may_be-clause-computed
returns-then-not-may_be-clause-computed c =
    let date = c.args.self.now in
    sym (never_meant date.church date.year (name [] c.args.row.now.1 c.args.row.now.2) date.date date.some date.few
    date.own (c.may_be.ensures c.if-not-may_be.true))

pub returns-in-Some-clause-decided : goal.returns-in-Some-clause-decided
returns-in-Some-clause-decided c =
    means_date c.args.self.now.church c.args.self.now.year (name [] c.args.row.now.1 c.args.row.now.2) c.in-Some.found
    c.args.self.now.date c.eq.result c.eq.ensures c.in-Some.ensures.only

pub returns-in-Some-clause-computed : goal.returns-in-Some-clause-computed
returns-in-Some-clause-computed c =
    means_found c.args.self.now.church c.args.self.now.year (name [] c.args.row.now.1 c.args.row.now.2) c.in-Some.found
    c.args.self.now.date c.eq.result c.eq.ensures c.in-Some.ensures.only c.in-Some.ensures.computed c.args.self.now.own
