-- Each turn adds the count of the next refusal, if there is one.
use Rattle.std.proofs.Common.{◌∙◌, arith}
use Rattle.register_app.proofs.ReportLemmas.{count_added, count_left_out}
use Rattle.register_app.proofs.reporting.push_counts.Goals as goal
use Rattle.register_app.proofs.reporting.push_counts.Goals.{then-count-gt0, else-count-gt0}

pub refusals-preserved : goal.refusals-preserved
refusals-preserved c =
    let before = c.refusals.invariant in
    let counted = c.count-count.ensures ∙ c.of-counts.ensures _ in
    elim c.if-count-gt0.branch [
      | then-count-gt0 w ↦
          rw (w.line-is, w.is_first-is) (
            omega (arith, before.0, w.push_count.ensures.short),
            count_added c.refusals.line.bytes w.push_count.new.line.bytes _ c.refusals.is_first c.args.journal.now
                c.refusals.refusal-index _ w.number.result c.count-count.result c.refusals-test.true w.number.ensures counted
                w.if-count-gt0.true w.push_count.ensures.bytes before.1,
          )
      | else-count-gt0 w ↦
          rw (w.line-is, w.is_first-is) (
            omega (arith, before.0),
            count_left_out c.refusals.line.bytes _ c.refusals.is_first c.args.journal.now c.refusals.refusal-index _
                c.count-count.result c.refusals-test.true counted (omega (arith, w.if-count-gt0.false)) before.1,
          )
    ]
