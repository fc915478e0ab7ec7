use Rattle.std.proofs.Common.{◌∙◌, refl, subst, sym}
use Rattle.sheets.specs.private.LineWriters.{Stands}
use Rattle.sheets.proofs.LineWriterLemmas.{makes_after, no_fault, stands_cut}
use Rattle.sheets.proofs.line_writers.LineWriter.cut.Goals as goal

pub returns-then-is_some : goal.returns-then-is_some
returns-then-is_some g c lines =
    makes_after g.W.Output lines c.args.self.now c.args._output.now (sym c.is_some.ensures ∙ c.if-is_some.true)

pub returns : goal.returns
returns g c lines =
    let self = c.args.self.now in
    let none = no_fault self.fault (sym c.is_some.ensures ∙ c.if-is_some.false) in
    record {
      maker = refl;
      delimiter = refl;
      holds = λ given made h.
          record {
            stands = stands_cut g.W.Output self.sender.delimiter given c.args._output.now self.sender.lines made lines
                (subst (Stands g.W.Output self.sender.delimiter given c.args._output.now self.sender.lines made) none
                h.stands);
            mark = h.mark;
          };
    }
