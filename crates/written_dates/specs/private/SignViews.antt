-- What functions returned, without where it lies in memory.
use Rattle.std.specs.Prelude.{◌≡◌, ◌≤◌, ℕ, ◌+◌, Bool, true, ◌||◌, nat_le, if◌then◌else◌, List, ◌++◌, Option, Some, None}
use Rattle.std.specs.Prelude.{drop, length}
use Rattle.std.specs.Borrow.{Bor}
use Rattle.written_dates.specs.Fields.{is_blank}
use Rattle.written_dates.specs.Names.{is_empty}
use Rattle.written_dates.specs.Parts.{parts, stands}
use Rattle.written_dates.specs.Signs.{◌>>=◌, bare, behind_hyphen, digits_first}
use Rattle.written_dates.specs.Tokens.{Piece, kind_of, tokens}

abbrev pub seen_digits : Option (Bor (List ℕ) × Bor (List ℕ)) → Option (List ℕ × List Piece)
seen_digits None = None
seen_digits (Some x) = Some (x.0.now, tokens 0 x.1.now)

abbrev pub seen_text : Option (Bor (List ℕ)) → Option (List ℕ)
seen_text None = None
seen_text (Some x) = Some x.now

-- a text behind another, if there is one
abbrev pub joined_front : List ℕ → Option (List ℕ) → Option (List ℕ)
joined_front front None = None
joined_front front (Some rest) = Some (front ++ rest)

abbrev pub seen_rest : Option (Bor (List ℕ)) → Option (List Piece)
seen_rest None = None
seen_rest (Some x) = Some (tokens 0 x.now)

-- bytes of blanks, and those that may begin one beyond ASCII
abbrev pub may_be_blank : ℕ → Bool
may_be_blank c = is_blank (kind_of c) || nat_le 128 c

-- the digits behind the dash of registers, and what follows
unfoldable pub next_digits : List Piece → Option (List ℕ × List Piece)
next_digits tokens = behind_hyphen tokens >>= digits_first

-- three runs of digits, digits by digits
abbrev pub runs_by_steps : List Piece → Option (List ℕ × List ℕ × List ℕ)
runs_by_steps tokens = do
  a ← digits_first tokens
  b ← next_digits a.1
  c ← next_digits b.1
  if is_empty (bare c.1) then Some (a.0, b.0, c.0) else None

-- the parts of a name stand in front of those of a text: how many these are, and what follows
pub record Stands (name text : List ℕ) (found : ℕ × Bor (List ℕ)) : Type 0 where
  pub there : stands (parts name) (parts text) ≡ true
  pub count : found.0 ≡ length (parts name)
  pub rest : parts found.1.now ≡ drop found.0 (parts text)
  pub shorter : found.0 + length found.1.now ≤ length text
