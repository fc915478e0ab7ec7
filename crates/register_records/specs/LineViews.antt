-- What a clause sees of a `LineBuffer`.
use Rattle.std.specs.Prelude.{◌≡◌, ◌≤◌, ◌+◌, ℕ, List, take, vec_len}
use Rattle.register_records.specs.declared.lines.LineBuffer.{LineBuffer}

-- the bytes of the lines so far
abbrev pub line_bytes : LineBuffer → List ℕ
line_bytes lines = take lines.len lines.bytes.items

-- for how many there is memory
abbrev pub line_capacity : LineBuffer → ℕ
line_capacity lines = vec_len lines.bytes

-- they took so many bytes more at most, in the same memory
abbrev pub GrowsBy : ℕ → LineBuffer → LineBuffer → Type 0
GrowsBy room old new =
    (new.delimiter ≡ old.delimiter) × (line_capacity new ≡ line_capacity old) × (new.len ≤ old.len + room)
