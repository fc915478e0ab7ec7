-- The remainder of a division that rounds down, as leap rules use it.
use Rattle.std.specs.Prelude.{ℕ, ℤ, pos, unsigned_abs}
use Rattle.std.specs.Int.{int_rem_euclid}

-- y mod k, from 0 to k - 1
abbrev pub remainder : ℤ → ℕ → ℕ
remainder y k = unsigned_abs (int_rem_euclid y (pos k))
