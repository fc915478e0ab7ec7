-- A time of day at the end of a text.
use Rattle.std.specs.Prelude.{ℕ, Bool, false, not, ◌&&◌, ◌||◌, ◌==◌, nat_le, nat_lt, if◌then◌else◌, List, [], ◌∷◌, length}
use Rattle.std.specs.Prelude.{codes, Option, Some, None}
use Rattle.std.specs.Char.{is_ascii_digit}
use Rattle.std.specs.List.{list_all}
use Rattle.written_dates.specs.Fields.{without_blanks}
use Rattle.written_dates.specs.Signs.{◌>>=◌}
use Rattle.written_dates.specs.Words.{same_word}

-- a space (32) or a tab
abbrev pub is_gap : ℕ → Bool
is_gap c = (c == 32) || (c == 9)

-- the bytes from the first on that is neither
abbrev pub behind_gaps : List ℕ → List ℕ
behind_gaps [] = []
behind_gaps (c ∷ rest) = if is_gap c then behind_gaps rest else c ∷ rest

-- what follows this byte
abbrev pub behind_byte : ℕ → List ℕ → Option (List ℕ)
behind_byte byte [] = None
behind_byte byte (c ∷ rest) = if c == byte then Some rest else None

-- what follows two digits, 00 to 59
abbrev pub behind_sixtieth : List ℕ → Option (List ℕ)
behind_sixtieth (a ∷ b ∷ rest) = if is_ascii_digit a && nat_le a 53 && is_ascii_digit b then Some rest else None
behind_sixtieth text = None

-- what follows this byte and two such digits
abbrev pub behind_part : ℕ → List ℕ → Option (List ℕ)
behind_part byte text = behind_byte byte text >>= behind_sixtieth

-- two digits, 00 to 24
abbrev pub is_hour : ℕ → ℕ → Bool
is_hour a b = is_ascii_digit a && is_ascii_digit b && (nat_le a 49 || ((a == 50) && nat_le b 52))

-- what follows an hour in one digit or two
abbrev pub behind_hour : List ℕ → Option (List ℕ)
behind_hour (a ∷ b ∷ rest) =
    if is_hour a b then Some rest else if is_ascii_digit a && not (is_ascii_digit b) then Some (b ∷ rest) else None
behind_hour text = None

-- there is such a rest, and it is so
abbrev pub is_so : (List ℕ → Bool) → Option (List ℕ) → Bool
is_so test None = false
is_so test (Some rest) = test rest

-- a word behind an hour which says that it is one
abbrev pub is_hour_word : List ℕ → Bool
is_hour_word word =
    same_word word (codes "am") || same_word word (codes "a.m.") || same_word word (codes "pm")
    || same_word word (codes "p.m.") || same_word word (codes "Uhr") || same_word word (codes "h")

abbrev pub is_worded : List ℕ → Bool
is_worded rest = is_hour_word (without_blanks rest)

-- behind a whole number of seconds: nothing, such a word, or digits behind a dot (46)
abbrev pub are_digits : List ℕ → Bool
are_digits text = nat_lt 0 (length text) && list_all is_ascii_digit text

abbrev pub is_fraction : List ℕ → Bool
is_fraction rest = is_so are_digits (behind_byte 46 rest)

abbrev pub is_after_seconds : List ℕ → Bool
is_after_seconds rest = list_all is_gap rest || is_worded rest || is_fraction rest

-- behind minutes: nothing, such a word, or seconds behind a colon (58)
abbrev pub is_after_minutes : List ℕ → Bool
is_after_minutes rest =
    list_all is_gap rest || is_worded rest || is_so is_after_seconds (behind_part 58 rest)

-- behind an hour: minutes behind a colon
abbrev pub is_after_hour : List ℕ → Bool
is_after_hour rest = is_so is_after_minutes (behind_part 58 rest)

-- or such a word, or minutes behind a dot with such a word
abbrev pub is_worded_hour : List ℕ → Bool
is_worded_hour rest = is_worded rest || is_so is_worded (behind_part 46 rest)

abbrev pub is_time : List ℕ → Bool
is_time rest = is_so (λ rest. is_after_hour rest || is_worded_hour rest) (behind_hour rest)

-- a T (84) with a time by colons behind it; a comma (44), a space or a tab with any time
abbrev pub begins_time : ℕ → List ℕ → Bool
begins_time c rest =
    ((c == 84) && is_so is_after_hour (behind_hour rest))
    || (((c == 44) || is_gap c) && is_time (behind_gaps rest))

abbrev pub behind : ℕ → Option (List ℕ) → Option (List ℕ)
behind c None = None
behind c (Some rest) = Some (c ∷ rest)

-- the text before the time of day that it ends with, if it ends with one
unfoldable pub timeless : List ℕ → Option (List ℕ)
timeless [] = None
timeless (c ∷ rest) = if begins_time c rest then Some [] else behind c (timeless rest)
