use Rattle.register_run.proofs.Common.{◌∙◌, ap, inl, inr, sym, Err}
use Rattle.register_run.proofs.RunningSourceLemmas.{concludes, not_started, why_unstarted, wrote_same}
use Rattle.register_run.proofs.running_sources.RunningSource.finish.Goals.{in-Err, in-Ok}
use Rattle.register_run.proofs.running_sources.RunningSource.finish.Goals as goal

pub conclude-requires-clause-passed : goal.conclude-requires-clause-passed
conclude-requires-clause-passed g c =
    let s = c.args.self in let text = g.R.Read.remaining s.source.value in
    let stripes = s.stripes.items in let table = c.send.new.self in let output = c.send.new.output in
    let by = sym c.send.ensures.same.1 in
    let wrote =
    wrote_same g.W.Output stripes stripes s.table table s.output output (λ row took. took) c.send.ensures.rows s.wrote in
    elim c.match-reader.branch [
      | in-Ok w ↦
          let reads = rw w.in-Ok.is at s.reads in let sent = w.join_threads-sent in
          rw (c.of-joined.ensures, w.sent-is)
          (concludes g.W.Output stripes table output text sent.result
          (rw (reads.0, reads.1 ∙ by) at sent.ensures.passed) (rw (reads.0, reads.1 ∙ by) at sent.ensures.machine) wrote)
      | in-Err w ↦
          let why = w.stopped_after-sent.ensures.1 ∙ ap Err w.from.ensures in
          rw (c.of-joined.ensures, w.sent-is)
          (concludes g.W.Output stripes table output text w.stopped_after-sent.result
          (not_started _ _ _ w.in-Err.fault w.stopped_after-sent.result why) (rw why tt) wrote)
    ]

pub conclude-requires-clause-staffed : goal.conclude-requires-clause-staffed
conclude-requires-clause-staffed g c =
    let s = c.args.self in let by = sym c.send.ensures.same.1 in
    elim c.match-reader.branch [
      | in-Ok w ↦
          let reads = rw w.in-Ok.is at s.reads in
          rw (c.of-joined.ensures, w.sent-is, sym by) (inl (reads.3, w.join_threads-sent.ensures.started))
      | in-Err w ↦
          rw (c.of-joined.ensures, w.sent-is)
          (inr (
            rw w.in-Err.is at s.unstarted,
            why_unstarted w.in-Err.fault _ (w.stopped_after-sent.ensures.1 ∙ ap Err w.from.ensures),
          ))
    ]
