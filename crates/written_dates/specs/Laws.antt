-- Laws of what is written.
use Rattle.std.specs.Prelude.{◌≡◌, ◌<◌, ◌≤◌, ℕ, Bool, true, false, not, ◌||◌, ◌==◌, IsTrue, List, ◌∷◌, ◌++◌, length, Some}
use Rattle.std.specs.Prelude.{slice_get, ◌↔◌, chars}
use Rattle.std.specs.Char.{is_ascii_digit}
use Rattle.std.specs.List.{list_all}
use Rattle.std.specs.Str.{str_to_ascii_lowercase}
use Rattle.caseless.specs.Caseless.{IsCanonicalMatch}
use Rattle.written_dates.specs.declared.meanings.Name.{Name}
use Rattle.written_dates.specs.declared.items.Number.{Number}
use Rattle.date_texts.specs.declared.calendar.Calendar.{Calendar}
use Rattle.written_dates.specs.declared.calendars.Form.TheVariants.{Civil}
use Rattle.written_dates.specs.declared.written.Short.TheVariants.{Keep}
use Rattle.written_dates.specs.declared.written.Choice.{Choice}
use Rattle.written_dates.specs.declared.meanings.Meaning.TheVariants.{Nothing}
use Rattle.written_dates.specs.Tokens.{Piece, tokens}
use Rattle.written_dates.specs.Parts.{parts, stands}
use Rattle.written_dates.specs.Words.{is_folded, same_word}
use Rattle.written_dates.specs.Items.{number_of_digits, longest}
use Rattle.written_dates.specs.Calendars.{form}
use Rattle.written_dates.specs.Signs.{has_minus}
use Rattle.written_dates.specs.Times.{begins_time, is_gap, timeless}
use Rattle.written_dates.specs.Written.{begins_at_midnight, dated_text, is_dated, is_turned, joined, short_rule, written}

-- one digit or more
pub record AreDigits (text : List ℕ) : Type 0 where
  pub some : 0 < length text
  pub digits : IsTrue (list_all is_ascii_digit text)

-- a date as registers have it stays, whatever the names, where its year is not last and is kept
abbrev pub RegisterDatesStay : Type 0
RegisterDatesStay =
    (choice : Choice) (calendar : Calendar) (names : List Name) (year month day : List ℕ) → form calendar ≡ Civil
    → AreDigits year → AreDigits month → AreDigits day → is_turned choice.order year day ≡ false
    → ((n : Number) → number_of_digits year ≡ Some n → short_rule choice calendar n ≡ Keep)
    → written choice (Some calendar) names (joined year month day) ≡ joined year month day

-- so does one with a minus
abbrev pub MinusDatesStay : Type 0
MinusDatesStay =
    (choice : Choice) (calendar : Calendar) (names : List Name) (year month day : List ℕ) → form calendar ≡ Civil
    → AreDigits year → AreDigits month → AreDigits day
    → written choice (Some calendar) names (45 ∷ joined year month day) ≡ 45 ∷ joined year month day

-- a name stands in front of the parts
pub record StandsAt (text : List Piece) (names : List Name) (place : ℕ) (name : Name) : Type 0 where
  pub there : slice_get names place ≡ Some name
  pub stands : stands (parts name.text.now) text ≡ true

-- what is found in front has as many parts as any name that stands there
abbrev pub FoundIsLongest : Type 0
FoundIsLongest =
    (text : List Piece) (names : List Name) (place : ℕ) (name : Name) → StandsAt text names place name
    → length (parts name.text.now) ≤ (longest text (0, Nothing) names).0

-- what is found in front, if anything is, is a name that stands there
abbrev pub FoundStands : Type 0
FoundStands =
    (text : List Piece) (names : List Name) → 0 < (longest text (0, Nothing) names).0
    → (place : ℕ) × (name : Name) × StandsAt text names place name
    × (longest text (0, Nothing) names ≡ (length (parts name.text.now), name.meaning))

-- words that differ in the case of A to Z alone are the same
abbrev pub LettersAreAlike : Type 0
LettersAreAlike = (a b : List ℕ) → str_to_ascii_lowercase a ≡ str_to_ascii_lowercase b → same_word a b ≡ true

-- two words that are folded are the same exactly where they are a canonical caseless match of Unicode
abbrev pub FoldedWordsMatch : Type 0
FoldedWordsMatch =
    (a b : List ℕ) → is_folded a ≡ true → is_folded b ≡ true
    → (same_word a b ≡ true) ↔ IsCanonicalMatch (chars a) (chars b)

-- a time of day behind a date changes nothing: what is written is what is written for the text before it. It is so where
-- days begin at midnight, and no minus stands in the text, which is no date with the time
abbrev pub TimesAreLeftOut : Type 0
TimesAreLeftOut =
    (choice : Choice) (calendar : Calendar) (names : List Name) (text before : List ℕ)
    → begins_at_midnight calendar ≡ true → timeless text ≡ Some before → has_minus (tokens 0 text) ≡ false
    → is_dated choice calendar names text ≡ false
    → is_dated choice calendar names before ≡ true
    → written choice (Some calendar) names text ≡ written choice (Some calendar) names before

-- what is a date without this stays what it is, and so does what is no date before a time of day
abbrev pub WholeDatesStay : Type 0
WholeDatesStay =
    (choice : Choice) (calendar : Calendar) (names : List Name) (text : List ℕ)
    → is_dated choice calendar names text ≡ true → dated_text choice calendar names text ≡ text

-- what is no date, and none before a time of day at its end, stays
abbrev pub UndatedTextsStay : Type 0
UndatedTextsStay =
    (choice : Choice) (calendar : Calendar) (names : List Name) (text : List ℕ)
    → ((before : List ℕ) → timeless text ≡ Some before → is_dated choice calendar names before ≡ false)
    → dated_text choice calendar names text ≡ text

-- the text before a time of day is the front of the text, and the time is all that follows it
abbrev pub TimesStandLast : Type 0
TimesStandLast =
    (text before : List ℕ) → timeless text ≡ Some before
    → (c : ℕ) × (rest : List ℕ) × (text ≡ before ++ c ∷ rest) × (begins_time c rest ≡ true)

-- and it is found behind any text that has no T (84), comma (44), space or tab
abbrev pub parts_no_time : ℕ → Bool
parts_no_time c = not ((c == 84) || (c == 44) || is_gap c)

abbrev pub TimesAreFound : Type 0
TimesAreFound =
    (before rest : List ℕ) (c : ℕ) → list_all parts_no_time before ≡ true → begins_time c rest ≡ true
    → timeless (before ++ c ∷ rest) ≡ Some before
