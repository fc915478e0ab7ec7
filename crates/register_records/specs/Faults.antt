-- What a clause sees of the readers for tests.
use Rattle.std.specs.Prelude.{ℕ, List, [], ◌∷◌, ◌++◌, drop, Vec}
use Rattle.std.specs.List.{flat_map}
use Rattle.std.specs.declared.alloc.Global.{Global}
use Rattle.register_records.specs.declared.faults.Chunks.{Chunks}

-- the bytes of chunks, one after the other
abbrev pub chunk_bytes : List (Vec ℕ Global) → List ℕ
chunk_bytes chunks = flat_map (λ (c : Vec ℕ Global). c.items) chunks

-- the same, where so many bytes of the first were given already
abbrev pub bytes_left : ℕ → List (Vec ℕ Global) → List ℕ
bytes_left given [] = []
bytes_left given (c ∷ chunks) = drop given c.items ++ chunk_bytes chunks

-- the bytes that a reader still has
abbrev pub bytes_to_come : Chunks → List ℕ
bytes_to_come r = bytes_left r.given (drop r.next r.chunks.items)
