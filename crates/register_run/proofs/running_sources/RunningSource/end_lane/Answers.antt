use Rattle.register_run.proofs.Common.{rules}
use Rattle.register_run.proofs.RunningSourceLemmas.{in_turn_ended, wrote_same}
use Rattle.register_run.proofs.running_sources.RunningSource.end_lane.Goals as goal

pub invariant_of-self-2-clause-reads : goal.invariant_of-self-2-clause-reads
invariant_of-self-2-clause-reads g c = rw c.write_heading.ensures.same.1 c.args.self.now.reads

pub invariant_of-self-2-clause-wrote : goal.invariant_of-self-2-clause-wrote
invariant_of-self-2-clause-wrote g c =
    let s = c.args.self.now in let head = c.write_heading in
    wrote_same g.W.Output s.stripes.items s.stripes.items s.table head.new.self s.output head.new.output
    (λ row took. took) head.ensures.rows s.wrote

pub invariant_of-self-clause-by_turns : goal.invariant_of-self-clause-by_turns
invariant_of-self-clause-by_turns g c = in_turn_ended _ _ c.requires.ended

pub invariant_of-self-clause-unstarted : goal.invariant_of-self-clause-unstarted
invariant_of-self-clause-unstarted g c = c.args.self.now.unstarted

pub invariant_of-self-clause-within : goal.invariant_of-self-clause-within
invariant_of-self-clause-within g c is = rw c.deref.ensures.value at c.next_open-self.ensures.below

pub invariant_of-self-2-clause-bounded : goal.invariant_of-self-2-clause-bounded
invariant_of-self-2-clause-bounded g c = rw c.write_heading.ensures.waiting c.args.self.now.bounded

pub invariant_of-self-2-clause-by_turns : goal.invariant_of-self-2-clause-by_turns
invariant_of-self-2-clause-by_turns g c = in_turn_ended _ _ c.requires.ended

pub invariant_of-self-2-clause-within : goal.invariant_of-self-2-clause-within
invariant_of-self-2-clause-within g c is = rw c.deref.ensures.value at c.next_open-self.ensures.below

pub returns-then-self-2 : goal.returns-then-self-2
returns-then-self-2 g c = search rules

pub returns : goal.returns
returns g c = search rules

pub invariant_of-self-2-clause-unstarted : goal.invariant_of-self-2-clause-unstarted
invariant_of-self-2-clause-unstarted g c = c.args.self.now.unstarted
