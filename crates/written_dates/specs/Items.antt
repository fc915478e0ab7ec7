-- The items of a text: numbers, months, marks, and what names a day by a feast.
use Rattle.std.specs.Prelude.{ℕ, zero, suc, ◌+◌, ◌-◌, ◌*◌, Bool, true, false, ◌&&◌, ◌||◌, ◌==◌, nat_le, nat_lt}
use Rattle.std.specs.Prelude.{if◌then◌else◌, List, [], ◌∷◌, ◌++◌, length, fold, Option, Some, None, is_some}
use Rattle.std.specs.Char.{is_ascii_digit}
use Rattle.std.specs.List.{list_all}
use Rattle.written_dates.specs.declared.tokens.Kind.{Kind}
use Rattle.written_dates.specs.declared.tokens.Kind.TheVariants.{Digit}
use Rattle.written_dates.specs.declared.items.Number.{Number}
use Rattle.written_dates.specs.declared.items.Item.{Item}
use Rattle.written_dates.specs.declared.items.Item.TheVariants as item
use Rattle.written_dates.specs.declared.meanings.Era.{Era}
use Rattle.written_dates.specs.declared.meanings.Era.TheVariants as eras
use Rattle.written_dates.specs.declared.meanings.Meaning.{Meaning}
use Rattle.written_dates.specs.declared.meanings.Meaning.TheVariants as meaning
use Rattle.written_dates.specs.declared.meanings.Name.{Name}
use Rattle.written_dates.specs.Tokens.{Piece}
use Rattle.written_dates.specs.Parts.{parts, stands}
use Rattle.written_dates.specs.Roman.{roman}

-- the number that digits spell
abbrev pub spelled : List ℕ → ℕ
spelled digits = fold (λ value digit. 10 * value + (digit - 48)) 0 digits

-- one to nine digits, as a number
unfoldable pub number_of_digits : List ℕ → Option Number
number_of_digits text =
    if nat_le (length text) 9 && list_all is_ascii_digit text
    then Some (record { value = spelled text; digits = length text; named = false; year = None; day = false }) else None

abbrev pub bare_number : Option ℕ → Option Number
bare_number None = None
bare_number (Some n) = Some (record { value = n; digits = 0; named = false; year = None; day = false })

abbrev pub number_of_kind : Kind → List ℕ → Option Number
number_of_kind Digit text = number_of_digits text
number_of_kind _ text = bare_number (roman text)

-- the number that a part is: digits, or a Roman number
abbrev pub number_of : Piece → Option Number
number_of p = number_of_kind p.kind p.text

-- three digits or more, or, Roman or named, 100 or more
abbrev pub is_long : Number → Bool
is_long n = is_some n.year || nat_le 3 n.digits || ((n.digits == 0) && nat_le 100 n.value)

-- no word for the years of another era stands beside a number
abbrev pub is_of_calendar : Option Era → Bool
is_of_calendar (Some eras.Spanish) = false
is_of_calendar (Some eras.Creation) = false
is_of_calendar era = true

-- what a name means in a date
abbrev pub meant : Meaning → List Item
meant meaning.Nothing = []
meant (meaning.Month m) = item.Month m ∷ []
meant meaning.Adar = item.Adar ∷ []
meant (meaning.Number n) =
    item.Number (record { value = n; digits = 0; named = true; year = None; day = false }) ∷ []
meant (meaning.YearWord era) = item.YearWord era ∷ []
meant meaning.DayWord = item.DayWord ∷ []
meant (meaning.Months first last) = item.Months first last ∷ []
meant (meaning.Part place parts) = item.Part place parts ∷ []
meant meaning.LastDay = item.LastDay ∷ []
meant (meaning.Century first) = item.Century first ∷ []
meant meaning.Decade = item.Decade ∷ []
meant (meaning.Mark m) = item.Mark m ∷ []
meant (meaning.Weekday w) = item.Weekday w ∷ []
meant (meaning.DecadeDay n) = item.DecadeDay n ∷ []
meant (meaning.Relation r) = item.Relation r ∷ []
meant (meaning.Feast f) = item.Feast f ∷ []
meant (meaning.Sundays s) = item.Sundays s ∷ []
meant (meaning.Word w) = item.Word w ∷ []

-- of the best so far, with how many parts it has, and the names that stand in front, the one with the most parts; the
-- first of those that have as many
abbrev pub longest : List Piece → ℕ × Meaning → List Name → ℕ × Meaning
longest text best [] = best
longest text best (name ∷ names) =
    longest text (if stands (parts name.text.now) text && nat_lt best.0 (length (parts name.text.now))
    then (length (parts name.text.now), name.meaning) else best) names

abbrev pub alone : Option Number → Option (ℕ × List Item)
alone None = None
alone (Some n) = Some (0, item.Number n ∷ [])

-- what stands in front, and how many of the parts behind the first belong to it: the longest name, or else a number
abbrev pub item_by : ℕ × Meaning → Piece → Option (ℕ × List Item)
item_by found part = if found.0 == 0 then alone (number_of part) else Some (found.0 - 1, meant found.1)

unfoldable pub item_in_front : List Name → Piece → List Piece → Option (ℕ × List Item)
item_in_front names part behind = item_by (longest (part ∷ behind) (0, meaning.Nothing) names) part

abbrev pub before : List Item → Option (List Item) → Option (List Item)
before front None = None
before front (Some rest) = Some (front ++ rest)

abbrev pub items_behind : Option (ℕ × List Item) → (ℕ → Option (List Item)) → Option (List Item)
items_behind None rest = None
items_behind (Some front) rest = before front.1 (rest front.0)

-- the items of these parts, behind so many that belong to a name before
unfoldable pub items : List Name → ℕ → List Piece → Option (List Item)
items names more [] = Some []
items names zero (part ∷ behind) =
    items_behind (item_in_front names part behind) (λ more. items names more behind)
items names (suc more) (part ∷ behind) = items names more behind
