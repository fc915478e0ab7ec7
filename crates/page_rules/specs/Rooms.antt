-- What is put to the front of memory that a caller lends.
use Rattle.std.specs.Prelude.{◌≡◌, ◌++◌, ℕ, List, length, drop, nat_le, if◌then◌else◌}

-- the room with these items at its front, and behind them what was there; or as it was, where they are too many
abbrev pub with_front : {T : Type 0} → List T → List T → List T
with_front items room = if nat_le (length items) (length room) then items ++ drop (length items) room else room

-- bytes that are as said, so many, were put to the front of the room
abbrev pub Puts : List ℕ → List ℕ → ℕ → (List ℕ → Type 0) → Type 0
Puts old new count AreAsSaid =
    (bytes : List ℕ) × AreAsSaid bytes × (length bytes ≡ count) × (new ≡ with_front bytes old)
