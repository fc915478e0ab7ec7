use Rattle.register_records.proofs.Common.{◌≡◌, ◌*◌, true, ◌↔◌, take, WORD_LEN}
use Rattle.register_records.proofs.target_lists.TargetList.is_same.Given as goal

abbrev pub invariant-words : goal.invariant-words
invariant-words l =
    (l.is_same ≡ true) ↔ (take (l.i * WORD_LEN) l.self.ranks ≡ take (l.i * WORD_LEN) l.other.ranks)
