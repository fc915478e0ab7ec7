-- What the words of options name.
use Rattle.std.specs.Prelude.{◌==◌, ◌%◌, ℕ, List, [], ◌∷◌, Option, Some, None, codes, if◌then◌else◌, option_and_then, option_map}
use Rattle.std.specs.Str.{bytes_eq, str_to_ascii_lowercase}
use Rattle.programs.specs.Values.{number_of, value_in, value_or}
use Rattle.written_dates.specs.declared.rules.Order.{Order}
use Rattle.written_dates.specs.declared.rules.Order.TheVariants.{YearFirst, DayFirst, MonthFirst}
use Rattle.written_dates.specs.declared.written.Short.{Short}
use Rattle.written_dates.specs.declared.written.Short.TheVariants.{Refuse, Keep, Add}

-- an order, in letters of any case
abbrev pub order_of : List ℕ → Option Order
order_of word =
    value_in ((codes "year", YearFirst) ∷ (codes "day", DayFirst) ∷ (codes "month", MonthFirst) ∷ [])
    (str_to_ascii_lowercase word)

-- a century up to 2000
abbrev pub century_of : List ℕ → Option ℕ
century_of word = option_and_then (λ years. if years % 100 == 0 then Some years else None) (number_of 2000 word)

-- what is done with short years; a century is added
abbrev pub short_of : List ℕ → Option Short
short_of =
    value_or ((codes "refuse", Refuse) ∷ (codes "keep", Keep) ∷ [])
    (λ word. option_map (λ years. Add years) (century_of word))

abbrev pub short_hebrew_of : List ℕ → Option Short
short_hebrew_of = value_in ((codes "refuse", Refuse) ∷ (codes "keep", Keep) ∷ (codes "5000", Add 5000) ∷ [])

-- what is said of short years counts for those of other calendars too, if it keeps them
abbrev pub if_keep : List ℕ → Option (List ℕ)
if_keep word = if bytes_eq word (codes "keep") then Some word else None

-- the word that counts for short years of other calendars: the one for them, and without it `keep`, where that stands
-- for short years
abbrev pub other_word : Option (List ℕ) → Option (List ℕ) → Option (List ℕ)
other_word (Some word) years = Some word
other_word None (Some years) = if_keep years
other_word None None = None

-- 0, or a number of at most five digits
abbrev pub skip_of : List ℕ → Option ℕ
skip_of = value_or ((codes "0", 0) ∷ []) (number_of 99_999)
