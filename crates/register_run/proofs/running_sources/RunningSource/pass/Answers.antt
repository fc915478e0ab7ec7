use Rattle.register_run.proofs.Common.{length-set}
use Rattle.register_run.proofs.RunningSourceLemmas.{in_turn_popped, popped_at, wrote_same}
use Rattle.register_run.proofs.StripeLemmas.{same_stripes}
use Rattle.register_run.proofs.running_sources.RunningSource.pass.Goals as goal

pub invariant_of-self-clause-reads : goal.invariant_of-self-clause-reads
invariant_of-self-clause-reads g c =
    let s = c.args.self.now in
    let same = same_stripes s.stripes.items s.turn c.pass.new.self _ c.index_mut.ensures.value c.pass.ensures.same in
    rw (same.lanes, same.setups) s.reads

pub invariant_of-self-clause-by_turns : goal.invariant_of-self-clause-by_turns
invariant_of-self-clause-by_turns g c =
    let stripes = c.args.self.now.stripes.items in let at = c.args.self.now.turn in
    let popped =
    popped_at stripes at c.pass.new.self _ c.requires.within c.index_mut.ensures.value c.pass.ensures.still
    c.pass.ensures.one in
    in_turn_popped stripes _ at c.next_open-self.result popped (length-set stripes at c.pass.new.self) c.requires.within
    c.args.self.now.by_turns (rw c.deref.ensures.value at c.next_open-self.ensures.machine)

pub invariant_of-self-clause-wrote : goal.invariant_of-self-clause-wrote
invariant_of-self-clause-wrote g c =
    let s = c.args.self.now in
    let same = same_stripes s.stripes.items s.turn c.pass.new.self _ c.index_mut.ensures.value c.pass.ensures.same in
    wrote_same g.W.Output s.stripes.items _ s.table s.table s.output s.output same.kept (λ rows is. is) s.wrote
