-- Laws of texts that say the same: letters of another case, more blanks, other signs, and words that mean the same.
use Rattle.std.specs.Prelude.{◌≡◌, ◌⊎◌, ⊤, ℕ, ◌<◌, Bool, true, false, not, ◌&&◌, ◌||◌, ◌==◌, nat_lt, if◌then◌else◌}
use Rattle.std.specs.Prelude.{List, [], ◌∷◌, ◌++◌, length, Some, None, is_none}
use Rattle.std.specs.List.{list_all, list_any}
use Rattle.std.specs.Str.{str_to_ascii_lowercase}
use Rattle.date_texts.specs.declared.calendar.Calendar.{Calendar}
use Rattle.written_dates.specs.declared.calendars.Form.{Form}
use Rattle.written_dates.specs.declared.calendars.Form.TheVariants.{Civil}
use Rattle.written_dates.specs.declared.items.Item.{Item}
use Rattle.written_dates.specs.declared.items.Item.TheVariants.{Number, Month}
use Rattle.written_dates.specs.declared.items.Number.{Number as Numeral}
use Rattle.written_dates.specs.declared.meanings.Meaning.{Meaning}
use Rattle.written_dates.specs.declared.meanings.Meaning.TheVariants.{Nothing}
use Rattle.written_dates.specs.declared.meanings.Name.{Name}
use Rattle.written_dates.specs.declared.written.Answer.{Answer}
use Rattle.written_dates.specs.declared.written.Answer.TheVariants.{Date, Refused, RomanDate}
use Rattle.written_dates.specs.declared.written.Choice.{Choice}
use Rattle.written_dates.specs.declared.written.Short.TheVariants.{Keep}
use Rattle.written_dates.specs.Calendars.{form}
use Rattle.written_dates.specs.Fields.{is_blank}
use Rattle.written_dates.specs.Items.{longest, number_of_digits}
use Rattle.written_dates.specs.Laws.{AreDigits}
use Rattle.written_dates.specs.Names.{names_in}
use Rattle.written_dates.specs.Parts.{parts}
use Rattle.written_dates.specs.Roman.{roman}
use Rattle.written_dates.specs.Rules.{beside_weekday}
use Rattle.written_dates.specs.Signs.{bare, begins_with_dash, has_minus, has_other, three_runs}
use Rattle.written_dates.specs.Sums.{found_items}
use Rattle.written_dates.specs.Tokens.{Piece, kind_of, tokens}
use Rattle.written_dates.specs.WholeNames.{is_letter}
use Rattle.written_dates.specs.Words.{same_word}
use Rattle.written_dates.specs.Written.{answer, is_dated, is_turned, joined, short_rule, written}

-- a date is found, if it be one whose short year is refused
abbrev pub is_said : Answer → Bool
is_said (Date year month day) = true
is_said (RomanDate year month mark count) = true
is_said Refused = true
is_said answer = false

-- the text is read: a date is written for it, or nothing, but not the text as it is. Where dates are years, months and
-- days, so is a date as registers have it
abbrev pub is_read : Form → Choice → Calendar → List Name → List ℕ → Bool
is_read Civil choice calendar names text = is_dated choice calendar names text
is_read form choice calendar names text = is_said (answer choice calendar names text)

-- two texts say the same: the same is found in both, a date or the reason why there is none; and where one is read, so
-- is the other, and the same is written for both
pub record SayTheSame (choice : Choice) (calendar : Calendar) (names : List Name) (a b : List ℕ) : Type 0 where
  pub says : answer choice calendar names a ≡ answer choice calendar names b
  pub reads : is_read (form calendar) choice calendar names a ≡ is_read (form calendar) choice calendar names b
  pub writes : is_read (form calendar) choice calendar names a ≡ true
      → written choice (Some calendar) names a ≡ written choice (Some calendar) names b

-- ---- words
-- a name stands for the word
abbrev pub is_named : List Name → Piece → Bool
is_named names word = nat_lt 0 (longest (word ∷ []) (0, Nothing) names).0

-- the same word to a reader, as in letters of another case; but a Roman number, unless it is a name, is the same number
abbrev pub AreSameWord : List Name → Piece → Piece → Type 0
AreSameWord names p q =
    (same_word p.text q.text ≡ true) × ((roman p.text ≡ roman q.text) ⊎ (is_named names p ≡ true))

-- the name has no part that is this word, or is this word alone
abbrev pub is_alone : Piece → Name → Bool
is_alone word name =
    not (list_any (λ part. same_word part.text word.text) (parts name.text.now)) || (length (parts name.text.now) == 1)

-- a word that is a name of this meaning, and a part of no longer name
pub record StandsAlone (names : List Name) (word : Piece) (meaning : Meaning) : Type 0 where
  pub means : longest (word ∷ []) (0, Nothing) names ≡ (1, meaning)
  pub alone : list_all (is_alone word) names ≡ true

-- two such words of one meaning
pub record AreSynonyms (names : List Name) (p q : Piece) : Type 0 where
  pub meaning : Meaning
  pub first : StandsAlone names p meaning
  pub second : StandsAlone names q meaning

-- ---- tokens
-- two tokens are the same; or blanks; or words that are the same to a reader, or synonyms
abbrev pub AreAlike : List Name → Piece → Piece → Type 0
AreAlike names p q =
    (p ≡ q) ⊎ ((is_blank p.kind ≡ true) × (is_blank q.kind ≡ true))
    ⊎ ((is_letter p.kind ≡ true) × (is_letter q.kind ≡ true) × (AreSameWord names p q ⊎ AreSynonyms names p q))

-- they are so one by one
abbrev pub EachAlike : List Name → List Piece → List Piece → Type 0
EachAlike names [] [] = ⊤
EachAlike names (p ∷ ps) (q ∷ qs) = AreAlike names p q × EachAlike names ps qs
EachAlike names ps qs = ⊥

-- a blank before another blank, or at the end, is left out
abbrev pub before_spaced : Piece → List Piece → List Piece
before_spaced p [] = if is_blank p.kind then [] else p ∷ []
before_spaced p (q ∷ rest) = if is_blank p.kind && is_blank q.kind then q ∷ rest else p ∷ q ∷ rest

unfoldable pub spaced : List Piece → List Piece
spaced [] = []
spaced (p ∷ rest) = before_spaced p (spaced rest)

-- the tokens of a text without the blanks at its ends, and with one blank where several stand
abbrev pub squeezed : List ℕ → List Piece
squeezed text = bare (spaced (tokens 0 text))

-- texts whose words are the same to a reader, or synonyms, and whose blanks may be more or fewer, say the same
abbrev pub AlikeTextsSayTheSame : Type 0
AlikeTextsSayTheSame =
    (choice : Choice) (calendar : Calendar) (names : List Name) (a b : List ℕ)
    → EachAlike (names_in calendar names) (squeezed a) (squeezed b) → SayTheSame choice calendar names a b

-- ---- letters of either case
-- no word is a Roman number, unless it is a name too
abbrev pub has_no_roman : List Name → List ℕ → Bool
has_no_roman names text = list_all (λ word. is_none (roman word.text) || is_named names word) (parts text)

-- small letters and capitals of A to Z are the same, but in Roman numbers
abbrev pub LettersOfEitherCaseSayTheSame : Type 0
LettersOfEitherCaseSayTheSame =
    (choice : Choice) (calendar : Calendar) (names : List Name) (a b : List ℕ)
    → str_to_ascii_lowercase a ≡ str_to_ascii_lowercase b → has_no_roman (names_in calendar names) a ≡ true
    → has_no_roman (names_in calendar names) b ≡ true → SayTheSame choice calendar names a b

-- ---- blanks
-- one blank or more: spaces, tabs and ends of lines
pub record AreBlanks (blanks : List ℕ) : Type 0 where
  pub some : 0 < length blanks
  pub all : list_all (λ c. is_blank (kind_of c)) blanks ≡ true

-- where blanks stand, any others may, and as many as one likes
abbrev pub BlanksSayTheSame : Type 0
BlanksSayTheSame =
    (choice : Choice) (calendar : Calendar) (names : List Name) (before blanks others after : List ℕ) → AreBlanks blanks
    → AreBlanks others → SayTheSame choice calendar names (before ++ (blanks ++ after)) (before ++ (others ++ after))

-- blanks in front of a text, or behind it, say nothing
abbrev pub OuterBlanksSayNothing : Type 0
OuterBlanksSayNothing =
    (choice : Choice) (calendar : Calendar) (names : List Name) (text blanks : List ℕ) → AreBlanks blanks
    → SayTheSame choice calendar names (blanks ++ text) text × SayTheSame choice calendar names (text ++ blanks) text

-- ---- synonyms
-- a word for another of the same meaning, where neither is a part of a longer name
abbrev pub SynonymsSayTheSame : Type 0
SynonymsSayTheSame =
    (choice : Choice) (calendar : Calendar) (names : List Name) (a b : List ℕ) (before after : List Piece) (p q : Piece)
    → tokens 0 a ≡ before ++ p ∷ after → tokens 0 b ≡ before ++ q ∷ after → is_letter p.kind ≡ true
    → is_letter q.kind ≡ true → AreSynonyms (names_in calendar names) p q → SayTheSame choice calendar names a b

-- ---- signs
-- a character stands in the text that no date has, a minus, or a dash in front
abbrev pub is_unread : List ℕ → Bool
is_unread text = has_other (tokens 0 text) || has_minus (tokens 0 text) || begins_with_dash (bare (tokens 0 text))

-- three numbers, or two behind a month by name: what they say depends on the signs between them
abbrev pub asks_signs : List Item → Bool
asks_signs (Number a ∷ Number b ∷ Number c ∷ []) = true
asks_signs (Month m ∷ Number a ∷ Number c ∷ []) = true
asks_signs found = false

-- in other texts, which are no dates as registers have them, signs and blanks part numbers and words, and say nothing
-- more: a comma, a full stop, a slash or a dash may stand there or not
abbrev pub SignsOnlyPart : Type 0
SignsOnlyPart =
    (choice : Choice) (calendar : Calendar) (names : List Name) (a b : List ℕ) (found : List Item)
    → EachAlike (names_in calendar names) (parts a) (parts b) → is_unread a ≡ false → is_unread b ≡ false
    → three_runs (tokens 0 a) ≡ None → three_runs (tokens 0 b) ≡ None → found_items calendar names a ≡ Some found
    → asks_signs (beside_weekday found) ≡ false → SayTheSame choice calendar names a b

-- ---- what is written
-- where the text is a date as registers have it, its year is not last, and is kept
abbrev pub HasKeptYear : Choice → Calendar → List ℕ → Type 0
HasKeptYear choice calendar text =
    (year month day : List ℕ) → text ≡ joined year month day → AreDigits year → AreDigits month → AreDigits day
    → (is_turned choice.order year day ≡ false)
    × ((n : Numeral) → number_of_digits year ≡ Some n → short_rule choice calendar n ≡ Keep)

-- what is written for a text is written for itself, if it is no date or has such a year
abbrev pub WrittenTextsStay : Type 0
WrittenTextsStay =
    (choice : Choice) (calendar : Calendar) (names : List Name) (text : List ℕ) → form calendar ≡ Civil
    → HasKeptYear choice calendar (written choice (Some calendar) names text)
    → written choice (Some calendar) names (written choice (Some calendar) names text)
    ≡ written choice (Some calendar) names text
