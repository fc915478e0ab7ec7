-- Words as they are compared.
use Rattle.std.specs.Prelude.{ℕ, Bool, ◌&&◌, nat_le, if◌then◌else◌, List, chars, length}
use Rattle.std.specs.Bool.{beq}
use Rattle.std.specs.Str.{bytes_eq, is_utf8, str_to_ascii_lowercase}
use Rattle.caseless.specs.Caseless.{canonical_key}
use Rattle.unicode_normalization.specs.Forms.{nfd}

-- at most 64 characters
abbrev pub is_short : List ℕ → Bool
is_short cs = nat_le (length cs) 64

-- UTF-8, and short when it is decomposed, and when it is folded too
unfoldable pub is_folded : List ℕ → Bool
is_folded word = is_utf8 word && is_short (nfd (chars word)) && is_short (canonical_key (chars word))

-- a word as it is compared: its characters by Unicode's canonical caseless match (D145), or else its bytes with A to Z
-- as small letters
unfoldable pub folded : List ℕ → List ℕ
folded word = if is_folded word then canonical_key (chars word) else str_to_ascii_lowercase word

-- two words are the same to a reader
unfoldable pub same_word : List ℕ → List ℕ → Bool
same_word a b = beq (is_folded a) (is_folded b) && bytes_eq (folded a) (folded b)
