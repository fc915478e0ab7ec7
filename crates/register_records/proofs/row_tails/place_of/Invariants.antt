use Rattle.std.proofs.Common.{◌≡◌, ℕ, ◌<◌, false, get_or, ◌==◌}
use Rattle.register_records.proofs.row_tails.place_of.Given as goal

abbrev pub invariant-bytes : goal.invariant-bytes
invariant-bytes l = (k : ℕ) → k < l.i → (get_or l.bytes k 0 == l.delimiter) ≡ false
