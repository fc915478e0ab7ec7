-- How words are folded.
use Rattle.std.specs.Prelude.{◌≡◌, ℕ, ◌+◌, ◌≤◌, List, ◌++◌, length}
use Rattle.unicode_normalization.specs.Order.{canonical_order}

-- these characters were put behind the others, in canonical order
pub record OrdersMore (old new more : List ℕ) : Type 0 where
  pub at : (xs : List ℕ) → old ≡ canonical_order xs → new ≡ canonical_order (xs ++ more)
  pub len : length new ≡ length old + length more
  pub short : length old ≤ 64 → length new ≤ 64
