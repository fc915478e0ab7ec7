-- Texts of two parts with a byte between them.
use Rattle.std.specs.Prelude.{◌≡◌, ℕ, List, ◌∷◌, ◌++◌}

-- the text is two parts, the first as P says and the second as Q says, joined by this byte
abbrev pub Joined : ℕ → (List ℕ → Type 0) → (List ℕ → Type 0) → List ℕ → Type 0
Joined byte P Q text = (a : List ℕ) × (b : List ℕ) × P a × Q b × (text ≡ a ++ byte ∷ b)
