use Rattle.register_run.proofs.Common.{subst, sym, ∥∥₁_map, AreOfLanes}
use Rattle.register_run.proofs.StripeLemmas.{took_dealt}
use Rattle.register_run.proofs.HistoryLemmas.{joined_of_machine}
use Rattle.register_run.proofs.running_sources.join_threads.Goals as goal

pub returns-in-Ok-clause-passed : goal.returns-in-Ok-clause-passed
returns-in-Ok-clause-passed g c = record {
  not_of_output = c.join-closed.ensures.not_of_output;
  rows = λ speaks. ∥∥₁_map c.join-closed.ensures.entries (λ (given, is, deals). (
    given,
    is,
    took_dealt given c.in-Ok.ended c.args.stripes.items c.join-closed.result.closed.items deals c.in-Ok.ensures,
  ));
}

pub returns-in-Ok-clause-machine : goal.returns-in-Ok-clause-machine
returns-in-Ok-clause-machine g c =
    let closed = c.join-closed.result.closed.items in
    let task = c.args.reader.promise in
    joined_of_machine (g.R.Read.remaining task.source.value) task.setup.value c.args.stripes.items closed
    c.join-closed.result.sent.count c.join-closed.result.sent.outcome
    c.in-Ok.ended c.is_ok.result c.if-ended-is_ok.true c.is_ok.ensures.value c.requires.3
    (subst (λ l. AreOfLanes l closed) (sym c.requires.2) c.join-closed.ensures.from)
    c.join-closed.ensures.entries c.in-Ok.ensures
