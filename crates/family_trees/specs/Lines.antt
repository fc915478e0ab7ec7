-- The lines of a family tree, as GEDCOM 5.5.1 and 7 have them: a level, for a record its number, a tag, and a value.
use Rattle.std.specs.Prelude.{◌==◌, ◌||◌, ◌&&◌, ◌+◌, ◌*◌, ◌-◌, ℕ, Bool, List, [], ◌∷◌, Option, None, Some, drop}
use Rattle.std.specs.Prelude.{if◌then◌else◌, codes, nat_eq, nat_le, option_to_list}
use Rattle.std.specs.Char.{is_ascii_whitespace}
use Rattle.std.specs.List.{after_first, before_first, flat_map, prefix_len, slice_split, starts_with}

pub record TreeLine : Type 0 where
  pub level : ℕ
  pub number : List ℕ
  pub tag : List ℕ
  pub value : List ℕ

infixl 10 ◌>>=◌
abbrev pub ◌>>=◌ : {A B : Type 0} → Option A → (A → Option B) → Option B
(Some x) >>= f = f x
None >>= f = None

abbrev pub is_blank : ℕ → Bool
is_blank byte = byte == 32

-- the bytes up to the first blank, and those behind it
abbrev pub word_of : List ℕ → List ℕ
word_of text = before_first is_blank text

abbrev pub rest_of : List ℕ → List ℕ
rest_of text = after_first is_blank text

abbrev pub digit_of : ℕ → Option ℕ
digit_of byte = if nat_le 48 byte && nat_le byte 57 then Some (byte - 48) else None

-- the level that a word of one or two digits names
abbrev pub level_of : List ℕ → Option ℕ
level_of (one ∷ []) = digit_of one
level_of (tens ∷ ones ∷ []) = digit_of tens >>= λ t. digit_of ones >>= λ o. Some (10 * t + o)
level_of word = None

-- behind a level: the number of a record, which begins with @, or none; a tag; and a value
abbrev pub line_at : ℕ → List ℕ → TreeLine
line_at level text =
    if starts_with nat_eq text (codes "@")
    then record { level = level; number = word_of text; tag = word_of (rest_of text); value = rest_of (rest_of text) }
    else record { level = level; number = []; tag = word_of text; value = rest_of text }

abbrev pub line_of : List ℕ → Option TreeLine
line_of text = level_of (word_of text) >>= λ level. Some (line_at level (rest_of text))

abbrev pub is_end : ℕ → Bool
is_end byte = (byte == 10) || (byte == 13)

-- without white space at the front
abbrev pub unindented : List ℕ → List ℕ
unindented text = drop (prefix_len is_ascii_whitespace text) text

-- the line that a part of a text is, or nothing
abbrev pub line_in : List ℕ → List TreeLine
line_in part = option_to_list (line_of (unindented part))

-- the lines of a text
abbrev pub tree_lines : List ℕ → List TreeLine
tree_lines text = flat_map line_in (slice_split is_end text)
