-- What a transcriber has supplied, in square brackets.
use Rattle.std.specs.Prelude.{ℕ, ◌+◌, Bool, ◌||◌, ◌==◌, if◌then◌else◌, List, ◌++◌, length, take, drop, position}
use Rattle.std.specs.Prelude.{Option, Some, None, option_map}
use Rattle.std.specs.List.{list_any}
use Rattle.written_dates.specs.Fields.{without_blanks}

-- [ (91) and ] (93)
abbrev pub is_bracket : ℕ → Bool
is_bracket c = (c == 91) || (c == 93)

-- a text before the first byte of this value, and behind it
abbrev pub cut_by : List ℕ → Option ℕ → Option (List ℕ × List ℕ)
cut_by text None = None
cut_by text (Some place) = Some (take place text, drop (place + 1) text)

abbrev pub cut_at : ℕ → List ℕ → Option (List ℕ × List ℕ)
cut_at byte text = cut_by text (position (λ c. c == byte) text)

-- what stands before, between and behind two brackets, where no other one stands, and more than blanks between them
abbrev pub if_only : List ℕ → List ℕ → List ℕ → Option (List ℕ × List ℕ × List ℕ)
if_only front within behind =
    if list_any is_bracket front || list_any is_bracket within || list_any is_bracket behind
    || (length (without_blanks within) == 0)
    then None else Some (front, within, behind)

abbrev pub closed : List ℕ → Option (List ℕ × List ℕ) → Option (List ℕ × List ℕ × List ℕ)
closed front None = None
closed front (Some two) = if_only front two.0 two.1

abbrev pub opened : Option (List ℕ × List ℕ) → Option (List ℕ × List ℕ × List ℕ)
opened None = None
opened (Some two) = closed two.0 (cut_at 93 two.1)

unfoldable pub bracketed : List ℕ → Option (List ℕ × List ℕ × List ℕ)
bracketed text = opened (cut_at 91 text)

-- a text without its only two brackets
abbrev pub joined : List ℕ × List ℕ × List ℕ → List ℕ
joined parts = parts.0 ++ (parts.1 ++ parts.2)

abbrev pub without_brackets : List ℕ → Option (List ℕ)
without_brackets text = option_map joined (bracketed text)
