use Rattle.std.proofs.Common.{ℕ, ◌<◌, ◌≢◌, slice_get}
use Rattle.register_records.proofs.setups.names_twice.Given as goal

abbrev pub invariant-later : goal.invariant-later
invariant-later l = (i j : ℕ) → i < j → j < l.j → slice_get l.targets i ≢ slice_get l.targets j

abbrev pub invariant-earlier : goal.invariant-earlier
invariant-earlier l = (i : ℕ) → i < l.i → slice_get l.targets i ≢ slice_get l.targets l.j
