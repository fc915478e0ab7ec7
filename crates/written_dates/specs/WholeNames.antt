-- The whole name in which a word stands: words that hyphens join are one name.
use Rattle.std.specs.Prelude.{ℕ, zero, suc, ◌-◌, Bool, true, false, ◌&&◌, if◌then◌else◌, List, [], ◌∷◌, length}
use Rattle.std.specs.Prelude.{Option, Some, None}
use Rattle.std.specs.List.{flat_map, list_any}
use Rattle.std.specs.Str.{bytes_eq}
use Rattle.written_dates.specs.declared.tokens.Kind.{Kind}
use Rattle.written_dates.specs.declared.tokens.Kind.TheVariants.{Hyphen, Letter}
use Rattle.written_dates.specs.Tokens.{Piece}

-- words are made of such characters
abbrev pub is_letter : Kind → Bool
is_letter Letter = true
is_letter _ = false

abbrev pub is_word : Piece → Bool
is_word p = is_letter p.kind

abbrev pub is_hyphen : Kind → Bool
is_hyphen Hyphen = true
is_hyphen _ = false

-- the words in front that hyphens join to what stands before them, each behind its hyphen
unfoldable pub joined_words : List Piece → List Piece
joined_words [] = []
joined_words (hyphen ∷ []) = []
joined_words (hyphen ∷ word ∷ rest) =
    if is_hyphen hyphen.kind && is_word word then hyphen ∷ word ∷ joined_words rest else []

-- the tokens of the name in front, if a word is
abbrev pub name_in_front : List Piece → List Piece
name_in_front [] = []
name_in_front (word ∷ rest) = if is_word word then word ∷ joined_words rest else []

abbrev pub spelled : List Piece → List ℕ
spelled name = flat_map (λ p. p.text) name

abbrev pub is_this : List ℕ → Piece → Bool
is_this word p = is_word p && bytes_eq p.text word

abbrev pub has_word : List ℕ → List Piece → Bool
has_word word name = list_any (is_this word) name

-- the first name that has this word, behind so many tokens of a name before; where none has it, the word alone
unfoldable pub name_with : List ℕ → ℕ → List Piece → List ℕ
name_with word more [] = word
name_with word zero (token ∷ rest) =
    if has_word word (name_in_front (token ∷ rest)) then spelled (name_in_front (token ∷ rest))
    else name_with word (length (name_in_front (token ∷ rest)) - 1) rest
name_with word (suc more) (token ∷ rest) = name_with word more rest

abbrev pub whole_name : List Piece → Option (List ℕ) → Option (List ℕ)
whole_name pieces None = None
whole_name pieces (Some word) = Some (name_with word 0 pieces)
