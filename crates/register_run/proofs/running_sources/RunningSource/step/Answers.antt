use Rattle.register_run.proofs.Common.{arith, length-set, rules}
use Rattle.register_run.proofs.RunningSourceLemmas.{in_turn_looked, looked_at, wrote_same}
use Rattle.register_run.proofs.StripeLemmas.{same_stripes}
use Rattle.register_run.proofs.running_sources.RunningSource.step.Goals as goal

pub invariant_of-self-clause-reads : goal.invariant_of-self-clause-reads
invariant_of-self-clause-reads g c = grind (arith, same_stripes)

pub invariant_of-self-clause-by_turns : goal.invariant_of-self-clause-by_turns
invariant_of-self-clause-by_turns g c =
    let s = c.args.self.now in
    in_turn_looked s.stripes.items s.turn c.look.new.self _ (s.within c.if-not-self.false) c.index_mut.ensures.value
    c.look.result c.look.ensures.looked s.by_turns

pub invariant_of-self-clause-within : goal.invariant_of-self-clause-within
invariant_of-self-clause-within g c is =
    let s = c.args.self.now in let below = s.within is in
    omega (arith, below, length-set s.stripes.items s.turn c.look.new.self)

pub invariant_of-self-clause-wrote : goal.invariant_of-self-clause-wrote
invariant_of-self-clause-wrote g c =
    let s = c.args.self.now in
    let same = same_stripes s.stripes.items s.turn c.look.new.self _ c.index_mut.ensures.value c.look.ensures.same in
    wrote_same g.W.Output s.stripes.items _ s.table s.table s.output s.output same.kept (λ rows is. is) s.wrote

pub returns-in-Row : goal.returns-in-Row
returns-in-Row g c = search (rules, looked_at)

pub returns-in-End : goal.returns-in-End
returns-in-End g c = search (rules, looked_at)

pub returns-in-Stop : goal.returns-in-Stop
returns-in-Stop g c = search (rules, looked_at)
