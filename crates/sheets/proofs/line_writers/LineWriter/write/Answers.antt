use Rattle.std.proofs.Common.{[], refl}
use Rattle.std.proofs.lemmas.Result.{on_ok_weaker}
use Rattle.sheets.proofs.SendingLemmas.{fields_made}
use Rattle.sheets.proofs.line_writers.LineWriter.write.Goals as goal

pub returns : goal.returns
returns g c =
    record {
      maker = refl;
      delimiter = c.end.ensures.kept;
      fault = refl;
      made = on_ok_weaker c.end.result (λ step begun made h.
          step begun made _ (fields_made _ begun _ _ _ made [] _ h c.in_ok-push.ensures)) c.end.ensures.made;
      output = c.end.ensures.output;
    }
