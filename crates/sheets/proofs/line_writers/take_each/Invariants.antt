use Rattle.std.proofs.Common.{[], ◌∷◌}
use Rattle.sheets.proofs.Common.{Gathers, record_read}
use Rattle.sheets.proofs.EachLemmas.{UpTo}
use Rattle.sheets.proofs.line_writers.take_each.Given as goal

abbrev pub invariant-writers : goal.invariant-writers
invariant-writers g l =
    UpTo (λ place. Gathers g.W.Output g.M.RecordLine.line l.setup.choice (record_read l.of_sheet ∷ [])) l.place
    l.fn.writers l.writers l.fn.files l.files
