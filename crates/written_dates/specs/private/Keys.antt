-- By which keys names are found.
use Rattle.std.specs.Prelude.{◌≡◌, ℕ, suc, ◌+◌, ◌*◌, ◌%◌, ◌<◌, ◌==◌, if◌then◌else◌, List, [], ◌∷◌, drop, fold, length}
use Rattle.std.specs.Prelude.{get_or, Some, slice_get}
use Rattle.written_dates.specs.declared.fields.CalendarName.{CalendarName}
use Rattle.written_dates.specs.declared.meanings.Name.{Name}
use Rattle.written_dates.specs.Tokens.{Piece}
use Rattle.written_dates.specs.Parts.{parts}
use Rattle.written_dates.specs.Words.{folded}

-- a number below 16384 for characters
abbrev pub key_of_chars : List ℕ → ℕ
key_of_chars cs = fold (λ value c. (31 * value + c) % 16384) 0 cs

-- the key of a word, which words have in common that are the same
abbrev pub key_of : List ℕ → ℕ
key_of word = key_of_chars (folded word)

abbrev pub first_text : List Piece → List ℕ
first_text [] = []
first_text (p ∷ rest) = p.text

-- the key of a name: that of its first number or word
abbrev pub key : Name → ℕ
key name = key_of (first_text (parts name.text.now))

-- the key of a calendar's name
abbrev pub calendar_key : CalendarName → ℕ
calendar_key name = key_of name.text.now

-- how many names stand before the first one that has this key
abbrev pub ahead : {A : Type 0} → (A → ℕ) → ℕ → List A → ℕ
ahead key_by k [] = 0
ahead key_by k (name ∷ names) = if key_by name == k then 0 else suc (ahead key_by k names)

-- the place of the first name from this place on that has this key, or the number of names
abbrev pub place_from : {A : Type 0} → (A → ℕ) → ℕ → List A → ℕ → ℕ
place_from key_by k names from = from + ahead key_by k (drop from names)

-- from this place on: where the names of each key begin, and behind each name where the next one of its key stands
pub record IsIndexed {A : Type 0} (key_by : A → ℕ) (names : List A) (firsts nexts : List ℕ) (from : ℕ) : Type 0 where
  pub keys : length firsts ≡ 16384
  pub as_many : length nexts ≡ length names
  pub first : (k : ℕ) → k < 16384 → get_or firsts k 0 ≡ place_from key_by k names from
  pub next : (place : ℕ) (name : A) → from < place + 1 → slice_get names place ≡ Some name
      → get_or nexts place 0 ≡ place_from key_by (key_by name) names (place + 1)
