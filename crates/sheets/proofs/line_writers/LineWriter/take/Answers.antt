use Rattle.std.proofs.Common.{◌∙◌, sym}
use Rattle.sheets.proofs.LineWriterLemmas.{makes_after, makes_stopped, no_fault}
use Rattle.sheets.proofs.line_writers.LineWriter.take.Goals as goal

pub returns-then-is_some : goal.returns-then-is_some
returns-then-is_some g c =
    makes_after g.W.Output _ c.args.self.now c.args.output.now (sym c.is_some.ensures ∙ c.if-is_some.true)

pub returns-in-Err : goal.returns-in-Err
returns-in-Err g c =
    makes_stopped g.W.Output _ c.args.self.now c.write.new.self c.args.output.now c.write.new.output c.in-Err.cause
    (no_fault c.args.self.now.fault (sym c.is_some.ensures ∙ c.if-is_some.false)) c.in-Err.ensures
