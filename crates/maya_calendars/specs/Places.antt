-- The places of a long count as it is written.
use Rattle.std.specs.Prelude.{ℕ, ◌≤◌}

-- each of the five places is at most 9999
abbrev pub ArePlaces : ℕ → ℕ → ℕ → ℕ → ℕ → Type 0
ArePlaces baktun katun tun uinal kin =
    (baktun ≤ 9_999) × (katun ≤ 9_999) × (tun ≤ 9_999) × (uinal ≤ 9_999) × (kin ≤ 9_999)
