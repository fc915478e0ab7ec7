-- What functions returned, without where it lies in memory.
use Rattle.std.specs.Prelude.{◌==◌, ℕ, Bool, List, Option, Some, None}
use Rattle.std.specs.Borrow.{Bor}

abbrev pub seen_sides : Option (Bor (List ℕ) × Bor (List ℕ)) → Option (List ℕ × List ℕ)
seen_sides None = None
seen_sides (Some x) = Some (x.0.now, x.1.now)

abbrev pub seen_parts : Option (Bor (List ℕ) × Bor (List ℕ) × Bor (List ℕ)) → Option (List ℕ × List ℕ × List ℕ)
seen_parts None = None
seen_parts (Some x) = Some (x.0.now, x.1.now, x.2.now)

abbrev pub seen_mark : Bor (List ℕ) × Bool × Bool → List ℕ × Bool × Bool
seen_mark x = (x.0.now, x.1, x.2)

-- the byte of a slash (47)
abbrev pub is_slash_byte : ℕ → Bool
is_slash_byte c = c == 47
