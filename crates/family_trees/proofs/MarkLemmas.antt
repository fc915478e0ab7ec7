-- The marks of calendars and the words before dates, one after the other.
use Rattle.std.proofs.Common.{◌≡◌, ◌<◌, ◌+◌, ◌∷◌, ℕ, List, arith, drop, get_or, length, map}
use Rattle.std.proofs.lemmas.List.{drop_more}
use Rattle.std.specs.Borrow.{Bor}
use Rattle.family_trees.specs.private.DateViews.{pair_seen}

-- the next pair, and those behind it
pub next_pair : (pairs : List (Bor (List ℕ) × Bor (List ℕ))) (i : ℕ) (d : Bor (List ℕ) × Bor (List ℕ))
    → i < length pairs
    → map pair_seen (drop i pairs) ≡ pair_seen (get_or pairs i d) ∷ map pair_seen (drop (i + 1) pairs)
next_pair pairs i d lt = grind (arith, drop_more pairs i d lt)

pub next_word : (words : List (Bor (List ℕ))) (i : ℕ) (d : Bor (List ℕ)) → i < length words
    → map (λ (word : Bor (List ℕ)). word.now) (drop i words)
    ≡ (get_or words i d).now ∷ map (λ (word : Bor (List ℕ)). word.now) (drop (i + 1) words)
next_word words i d lt = grind (arith, drop_more words i d lt)
