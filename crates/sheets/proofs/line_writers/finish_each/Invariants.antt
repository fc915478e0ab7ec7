use Rattle.std.proofs.Common.{◌≡◌, List, Some, length, Result, slice_get}
use Rattle.sheets.proofs.Common.{Finishes, first_fault, SheetCause}
use Rattle.sheets.proofs.EachLemmas.{UpTo}
use Rattle.sheets.proofs.line_writers.finish_each.Given as goal

abbrev pub invariant-writers : goal.invariant-writers
invariant-writers g l =
    (answers : List (Result (Unit {0}) SheetCause)) × (length answers ≡ l.place) × (l.result ≡ first_fault answers)
    × UpTo (λ place w v b a. (answer : Result (Unit {0}) SheetCause) × (slice_get answers place ≡ Some answer)
    × Finishes g.W.Output l.read w b a answer) l.place l.fn.writers l.writers l.fn.files l.files
