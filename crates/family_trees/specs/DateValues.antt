-- What the value of a date says, as GEDCOM 5.5.1 (`DATE_VALUE`) and 7 (`DateValue`) have it: a date; a word and a date; or
-- two words, each with a date. Before each date stands the mark of its calendar, or none where it is Gregorian.
use Rattle.std.specs.Prelude.{◌+◌, ◌&&◌, ◌++◌, ℕ, Bool, List, [], ◌∷◌, codes, drop, if◌then◌else◌, length, nat_lt, take}
use Rattle.std.specs.Str.{bytes_eq}
use Rattle.family_trees.specs.Lines.{unindented}

-- the marks, those of 5.5.1 first, and the name of each calendar
abbrev pub marks : List (List ℕ × List ℕ)
marks =
    (codes "@#DGREGORIAN@", codes "gregorian") ∷ (codes "@#DJULIAN@", codes "julian")
    ∷ (codes "@#DHEBREW@", codes "hebrew") ∷ (codes "@#DFRENCH R@", codes "republican")
    ∷ (codes "GREGORIAN ", codes "gregorian") ∷ (codes "JULIAN ", codes "julian")
    ∷ (codes "HEBREW ", codes "hebrew") ∷ (codes "FRENCH_R ", codes "republican") ∷ []

-- the words before one date
abbrev pub words : List (List ℕ)
words =
    codes "ABT " ∷ codes "CAL " ∷ codes "EST " ∷ codes "BEF " ∷ codes "AFT " ∷ codes "FROM " ∷ codes "TO "
    ∷ codes "INT " ∷ []

-- the words before the first of two dates and before the second
abbrev pub word_pairs : List (List ℕ × List ℕ)
word_pairs = (codes "BET ", codes " AND ") ∷ (codes "FROM ", codes " TO ") ∷ []

abbrev pub begins_with : List ℕ → List ℕ → Bool
begins_with part text = bytes_eq (take (length part) text) part

-- where a text first has this part, or its end
abbrev pub place_of : List ℕ → List ℕ → ℕ
place_of part [] = 0
place_of part (byte ∷ text) = if begins_with part (byte ∷ text) then 0 else 1 + place_of part text

abbrev pub has : List ℕ → List ℕ → Bool
has part text = nat_lt (place_of part text) (length text)

-- Each of these gives a calendar and a text.

-- a date behind one of these marks, or none
abbrev pub marked : List (List ℕ × List ℕ) → List ℕ → List ℕ × List ℕ
marked [] date = (codes "gregorian", date)
marked ((mark, calendar) ∷ others) date =
    if begins_with mark (unindented date) then (calendar, unindented (drop (length mark) (unindented date)))
    else marked others date

abbrev pub behind : List ℕ → List ℕ × List ℕ → List ℕ × List ℕ
behind word (calendar, text) = (calendar, word ++ text)

-- a date behind one of these words, which stays, or none
abbrev pub one_dated : List (List ℕ) → List ℕ → List ℕ × List ℕ
one_dated [] value = marked marks value
one_dated (word ∷ others) value =
    if begins_with word value then behind word (marked marks (drop (length word) value)) else one_dated others value

-- two dates where they have the same calendar; else the value as it stands
abbrev pub together : List ℕ → List ℕ × List ℕ → List ℕ × List ℕ → List ℕ × List ℕ
together value (calendar, first) (other, second) =
    if bytes_eq calendar other then (calendar, first ++ second) else (codes "gregorian", value)

-- a value that begins with the first of these words, behind which stand two dates and the second word between them
abbrev pub parted : List ℕ → List ℕ → List ℕ → List ℕ → List ℕ × List ℕ
parted value word second dates =
    together value (behind word (marked marks (take (place_of second dates) dates)))
    (behind second (marked marks (drop (place_of second dates + length second) dates)))

-- a value of two dates where it has two such words, else of one
abbrev pub dated_by : List (List ℕ × List ℕ) → List ℕ → List ℕ × List ℕ
dated_by [] value = one_dated words value
dated_by ((word, second) ∷ others) value =
    if begins_with word value && has second (drop (length word) value)
    then parted value word second (drop (length word) value)
    else dated_by others value

unfoldable pub dated : List ℕ → List ℕ × List ℕ
dated value = dated_by word_pairs value
