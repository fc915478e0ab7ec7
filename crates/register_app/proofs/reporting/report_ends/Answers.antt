-- Each turn reports the next source.
use Rattle.std.proofs.Common.{◌∙◌, ◌+◌, ◌++◌, [], ap, refl, subst}
use Rattle.std.specs.Io.KnownBytes.{Appends}
use Rattle.register_app.specs.Reports.{line_of_end}
use Rattle.register_app.proofs.ReportLemmas.{lines_end, lines_more}
use Rattle.programs.proofs.AppendsLemmas.{appends_both, appends_none}
use Rattle.register_app.proofs.reporting.report_ends.Goals as goal

pub ends-init : goal.ends-init
ends-init g c = (refl, refl, λ good. ([], appends_none (g.E.Output.contents c.args.errors.now), refl))

pub ends-preserved : goal.ends-preserved
ends-preserved g c = (
  ap (λ n. n + 1) c.ends.invariant.0,
  c.report_end.ensures.mark ∙ c.ends.invariant.1,
  λ good.
      let written = c.report_end.ensures.line good in
      let before = c.ends.invariant.2 written.0 in
      let place = ap (λ n. n + 1) c.ends.invariant.0 in
      let line = subst (λ n. Appends (g.E.Output.contents c.ends.errors) (g.E.Output.contents c.report_end.new.errors)
      (line_of_end c.args.summary n c.end-item.result)) place written.1 in (
        before.0 ++ line_of_end c.args.summary (c.ends.end-index + 1) c.end-item.result,
        appends_both (g.E.Output.contents c.args.errors.now) (g.E.Output.contents c.ends.errors)
            (g.E.Output.contents c.report_end.new.errors) before.0 _ before.1 line,
        lines_more c.args.summary c.args.ends.now c.ends.end-index c.end-item.result before.0 _ c.ends-test.true
            c.end-item.is before.2,
      ),
)

pub returns-clause-lines : goal.returns-clause-lines
returns-clause-lines g c = λ good.
    let written = c.ends.invariant.2 good in
    subst (λ text. Appends (g.E.Output.contents c.args.errors.now) (g.E.Output.contents c.ends.errors) text)
    (lines_end c.args.summary c.args.ends.now c.ends.end-index written.0 _ c.ends-test.false written.2) written.1
