-- What the words of options mean.
use Rattle.std.specs.Prelude.{◌&&◌, ℕ, Bool, List, [], ◌∷◌, codes, if◌then◌else◌, length, nat_le, Option, Some, None}
use Rattle.std.specs.Str.{all_ascii_digits, bytes_eq}
use Rattle.std.specs.Str.Parse.{digits_value}
use Rattle.programs.specs.declared.values.Delimiter.{Delimiter as DelimiterWord}
use Rattle.programs.specs.declared.values.Delimiter.TheVariants as delimiter

-- the word is one to five decimal digits, which write a number from 1 to `most`
abbrev pub is_number_word : ℕ → List ℕ → Bool
is_number_word most word =
    nat_le (length word) 5 && (all_ascii_digits word
    && (nat_le 1 (digits_value 10 word) && nat_le (digits_value 10 word) most))

-- the number that such a word names
abbrev pub number_of : ℕ → List ℕ → Option ℕ
number_of most word = if is_number_word most word then Some (digits_value 10 word) else None

-- what a word names by a list of words and what each names, or else otherwise
abbrev pub value_or : {A : Type 0} → List (List ℕ × A) → (List ℕ → Option A) → List ℕ → Option A
value_or [] otherwise word = otherwise word
value_or ((name, value) ∷ rows) otherwise word =
    if bytes_eq word name then Some value else value_or rows otherwise word

-- by the list alone
abbrev pub value_in : {A : Type 0} → List (List ℕ × A) → List ℕ → Option A
value_in rows = value_or rows (λ word. None)

-- the words for a delimiter, and its byte: a comma, a semicolon and a tab
abbrev pub delimiter_of : List ℕ → Option DelimiterWord
delimiter_of =
    value_in ((codes "comma", delimiter.Comma) ∷ (codes "semicolon", delimiter.Semicolon)
    ∷ (codes "tab", delimiter.Tab) ∷ [])

abbrev pub byte_of : DelimiterWord → ℕ
byte_of delimiter.Comma = 44
byte_of delimiter.Semicolon = 59
byte_of delimiter.Tab = 9
