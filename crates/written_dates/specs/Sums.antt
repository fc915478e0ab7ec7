-- Items that belong together, by rules of this project.
use Rattle.std.specs.Prelude.{◌≡◌, ℕ, ◌+◌, ◌%◌, Bool, true, ◌&&◌, ◌||◌, ◌==◌, nat_le, nat_lt, if◌then◌else◌, List, [], ◌∷◌}
use Rattle.std.specs.Prelude.{Option, None, Some, option_map}
use Rattle.date_texts.specs.declared.calendar.Calendar.{Calendar}
use Rattle.written_dates.specs.declared.items.Number.{Number as Numeral}
use Rattle.written_dates.specs.declared.items.Item.{Item}
use Rattle.written_dates.specs.declared.items.Item.TheVariants.{Number, YearWord, DayWord, Weekday, Feast}
use Rattle.written_dates.specs.declared.meanings.Era.{Era}
use Rattle.written_dates.specs.declared.meanings.Era.TheVariants as eras
use Rattle.written_dates.specs.declared.meanings.Name.{Name}
use Rattle.written_dates.specs.Items.{is_long, items}
use Rattle.written_dates.specs.Names.{names_in}
use Rattle.written_dates.specs.Parts.{parts}

-- thousands and a number below 1000, or hundreds and one below 100, both by name: `mil huit cent` and `vingt-trois`
abbrev pub adds_up : Numeral → Numeral → Bool
adds_up a b =
    a.named && b.named && nat_lt 0 a.value && nat_lt a.value 10_000 && nat_lt 0 b.value
    && (((a.value % 1000 == 0) && nat_lt b.value 1000) || ((a.value % 100 == 0) && nat_lt b.value 100))

-- an era has these years: the Spanish one until 1422 AD, that of the creation until 1699
abbrev pub has_year_of : Era → ℕ → Bool
has_year_of eras.Calendar year = true
has_year_of eras.Spanish year = nat_lt 38 year && nat_le year 1_460
has_year_of eras.Creation year = nat_lt 5_508 year && nat_le year 7_208

abbrev pub has_sum : Option Era → ℕ → Bool
has_sum None year = true
has_sum (Some era) year = has_year_of era year

-- the one number that two numbers are, if they add up; as a year one that its era has
abbrev pub sum_of : Numeral → Numeral → Option Item
sum_of a b =
    if adds_up a b && has_sum a.year (a.value + b.value)
    then Some (Number (record { value = a.value + b.value; digits = 0; named = true; year = a.year; day = a.day })) else None

-- a number beside a word for year is the year
abbrev pub with_year : Era → Numeral → Item
with_year era n = Number (record { value = n.value; digits = n.digits; named = n.named; year = Some era; day = n.day })

abbrev pub behind_year : Era → Numeral → Option Item
behind_year era n = if has_year_of era n.value then Some (with_year era n) else None

-- a number beside a word for day, which is not long, counts days
abbrev pub with_day : Numeral → Option Item
with_day n =
    if is_long n then None
    else Some (Number (record { value = n.value; digits = n.digits; named = n.named; year = n.year; day = true }))

-- a word for year behind a long number says nothing more, unless its years are those of another era
abbrev pub before_era : Era → Numeral → Option Item
before_era eras.Calendar n = Some (Number n)
before_era era n = behind_year era n

abbrev pub before_year : Era → Numeral → Option Item
before_year era n = if is_long n then before_era era n else None

-- the one item that two items are, if they belong together: numbers that add up; a number and a word for year or day; and
-- a weekday or a feast behind a word for day, which says nothing more
abbrev pub joined_item : Item → Item → Option Item
joined_item (Number a) (Number b) = sum_of a b
joined_item (Number a) (YearWord era) = before_year era a
joined_item (Number a) DayWord = with_day a
joined_item (YearWord era) (Number b) = behind_year era b
joined_item DayWord (Number b) = with_day b
joined_item DayWord (Weekday w) = Some (Weekday w)
joined_item DayWord (Feast f) = Some (Feast f)
joined_item x y = None

abbrev pub joined_or : Option Item → Item → Item → (Item → List Item) → List Item
joined_or None x y rest = x ∷ rest y
joined_or (Some z) x y rest = rest z

-- an item and those behind it, in which items that belong together are one
unfoldable pub summed_from : Item → List Item → List Item
summed_from x [] = x ∷ []
summed_from x (y ∷ rest) = joined_or (joined_item x y) x y (λ z. summed_from z rest)

abbrev pub summed : List Item → List Item
summed [] = []
summed (x ∷ rest) = summed_from x rest

-- what a text is made of, by the names that hold in a calendar
abbrev pub found_items : Calendar → List Name → List ℕ → Option (List Item)
found_items calendar names text = option_map summed (items (names_in calendar names) 0 (parts text))

-- ---- a law: the sum of all numbers stays
abbrev pub value_of : Item → ℕ
value_of (Number n) = n.value
value_of item = 0

abbrev pub total : List Item → ℕ
total [] = 0
total (x ∷ rest) = value_of x + total rest

abbrev pub SumsStay : Type 0
SumsStay = (found : List Item) → total (summed found) ≡ total found
