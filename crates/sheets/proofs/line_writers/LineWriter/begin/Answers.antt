use Rattle.std.proofs.Common.{[]}
use Rattle.std.proofs.lemmas.Result.{on_ok_weaker}
use Rattle.sheets.proofs.SendingLemmas.{fields_made, record_made}
use Rattle.sheets.proofs.line_writers.LineWriter.begin.Goals as goal

pub returns-clause-made : goal.returns-clause-made
returns-clause-made g c =
    on_ok_weaker c.end.result (λ ends d begun h.
    record_made d begun begun _ _ [] _ (fields_made d begun begun _ _ [] [] _ h c.in_ok-push_all.ensures) ends)
    c.end.ensures
