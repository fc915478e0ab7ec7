use Rattle.register_run.proofs.Common.{subst, StripeTook}
use Rattle.register_run.proofs.RunningSourceLemmas.{wrote_row}
use Rattle.register_run.proofs.StripeLemmas.{any_here}
use Rattle.register_run.proofs.running_sources.RunningSource.add_row.Goals as goal

pub invariant_of-self-clause-wrote : goal.invariant_of-self-clause-wrote
invariant_of-self-clause-wrote g c =
    let s = c.args.self.now in let row = c.in-Some.row.now in
    let here =
    any_here s.stripes.items s.turn c.index.result.now row c.requires.within
    (subst (λ x. StripeTook x row) c.index.ensures c.in-Some.ensures) in
    wrote_row g.W.Output s.stripes.items s.table c.write_heading.new.self c.add.new.self s.output
    c.write_heading.new.output row here c.write_heading.ensures.rows c.add.ensures.added c.add.ensures.refused s.wrote
