use Rattle.register_run.proofs.Common.{◌≡◌, ap, arith, subst, sym, popped}
use Rattle.register_run.proofs.running_sources.RunningSource.start.Goals.{in-Err, in-Ok}
use Rattle.register_run.proofs.running_sources.RunningSource.start.Goals as goal

pub invariant_of-result-clause-reads : goal.invariant_of-result-clause-reads
invariant_of-result-clause-reads g c = grind arith

pub invariant_of-result-clause-unstarted : goal.invariant_of-result-clause-unstarted
invariant_of-result-clause-unstarted g c = grind arith

pub invariant_of-result-clause-by_turns : goal.invariant_of-result-clause-by_turns
invariant_of-result-clause-by_turns g c all w many =
    let none : popped c.match-start_threads.reader.1.items ≡ 0 = elim c.match-start_threads.branch [
      | in-Ok v ↦ subst (λ x. popped x.1.items ≡ 0) (sym v.reader-is) v.in-Ok.ensures.unpopped
      | in-Err v ↦ subst (λ x. popped x.1.items ≡ 0) (sym v.reader-is) (ap popped v.new.ensures.items)
    ] in
    grind (arith, none)
