use Rattle.register_records.proofs.Common.{◌≡◌, ℕ, ◌<◌, false, get_or, all_targets, Haab, have_one_name}
use Rattle.register_records.proofs.target_lists.rank.Given as goal

abbrev pub invariant-ranks : goal.invariant-ranks
invariant-ranks l = (k : ℕ) → k < l.i → have_one_name l.target (get_or all_targets k Haab) ≡ false
