use Rattle.std.proofs.Common.{◌∙◌, ap}
use Rattle.sheets.specs.declared.record_lines.BodyLine.{BodyLine}
use Rattle.sheets.proofs.LineWriterLemmas.{waits_none}
use Rattle.sheets.proofs.converting.new_writers.Goals as goal

pub returns-clause-new : goal.returns-clause-new
returns-clause-new c =
    let known = rw c.in-Some.is at c.in_ok-width.ensures.some in
    record {
      named = known.0;
      most = 0;
      notes = c.none.ensures c.args.choice.now;
      wide = ap (λ (m : BodyLine). m.width) c.new.ensures.maker ∙ known.1;
      sheet = waits_none c.new.result c.args.choice.now.delimiter c.new.ensures.delimiter c.new.ensures.fault
          c.new.ensures.none;
      registers = c.in_ok-registers.ensures;
    }
