-- What is put into a buffer, one piece behind the other.
use Rattle.std.specs.Prelude.{◌≡◌, ℕ, ◌+◌, ◌-◌, List, ◌++◌, length, replicate, take}
use Rattle.std.specs.Fmt.{decimal}

-- a piece was put at one index, and the next index is behind it; what stood before it still stands there
pub record IsPut (old : List ℕ) (new : List ℕ) (at : ℕ) (next : ℕ) (piece : List ℕ) : Type 0 where
  pub follows : next ≡ at + length piece
  pub value : take next new ≡ take at old ++ piece

-- the decimal digits of n, with zeros before them up to a width
abbrev pub padded : ℕ → ℕ → List ℕ
padded width n = replicate (width - length (decimal n)) 48 ++ decimal n
