-- What numbers, months and marks say together, by rules of this project.
use Rattle.std.specs.Prelude.{ℕ, ◌+◌, Bool, true, false, not, ◌&&◌, ◌||◌, ◌==◌, nat_le, nat_lt, if◌then◌else◌}
use Rattle.std.specs.Prelude.{List, [], ◌∷◌, Option, Some, None}
use Rattle.written_dates.specs.declared.meanings.Mark.{Mark}
use Rattle.written_dates.specs.declared.meanings.Mark.TheVariants.{Kalends}
use Rattle.written_dates.specs.declared.items.Number.{Number as Numeral}
use Rattle.written_dates.specs.declared.items.Item.{Item}
use Rattle.written_dates.specs.declared.items.Item.TheVariants.{Number, Month, Mark as Marked, Weekday, DecadeDay}
use Rattle.written_dates.specs.declared.rules.Order.{Order}
use Rattle.written_dates.specs.declared.rules.Order.TheVariants.{YearFirst, DayFirst, MonthFirst}
use Rattle.written_dates.specs.declared.rules.Reading.{Reading}
use Rattle.written_dates.specs.declared.rules.Reading.TheVariants.{Civil, Roman}
use Rattle.written_dates.specs.declared.rules.InYear.TheVariants.{Day, NumberedWeekday, Feast}
use Rattle.written_dates.specs.declared.feast_rules.Naming.{Naming}
use Rattle.written_dates.specs.Items.{is_long, is_of_calendar}
use Rattle.written_dates.specs.Signs.{has_two_dashes, has_mixed_signs, has_bar_between}
use Rattle.written_dates.specs.Tokens.{Piece}
use Rattle.written_dates.specs.FeastRules.{feast_naming}

-- the number stands in digits, and not as a Roman one or a name
abbrev pub in_digits : Numeral → Bool
in_digits n = nat_lt 0 n.digits

abbrev pub civil : Numeral → ℕ → ℕ → Option Reading
civil year month day = Some (Civil year (Day month day))

-- three numbers in an order
abbrev pub in_order : Order → Numeral → Numeral → Numeral → Option Reading
in_order YearFirst a b c = civil a b.value c.value
in_order DayFirst a b c = civil c b.value a.value
in_order MonthFirst a b c = civil c a.value b.value

abbrev pub is_year_first : Order → Bool
is_year_first YearFirst = true
is_year_first _ = false

-- a number, a month, a number: two long numbers say nothing; one is the year; else the order says which
abbrev pub month_between : Order → Numeral → ℕ → Numeral → Option Reading
month_between order a month c =
    if is_long a && is_long c then None
    else if is_long a || (not (is_long c) && is_year_first order) then civil a month c.value
    else civil c month a.value

-- a month by name, a day that is not long, and the year; none where the year is not long either, and a dash or a slash
-- stands between
abbrev pub month_in_front : List Piece → ℕ → Numeral → Numeral → Option Reading
month_in_front pieces month a c =
    if is_long a || (not (is_long c) && has_bar_between pieces) then None else civil c month a.value

-- of three numbers only the middle one is Roman or a name: it is the month
abbrev pub is_month_between : Numeral → Numeral → Numeral → Bool
is_month_between a b c = in_digits a && not (in_digits b) && in_digits c

-- three numbers with like signs, of which one at most is long, and not the middle one: where the first is, or none is and
-- they are digits with dashes between them, the year is first; else the order says, which must not be year first where
-- the last is long
abbrev pub three_numbers : List Piece → Order → Numeral → Numeral → Numeral → Option Reading
three_numbers pieces order a b c =
    if is_long b || (is_long a && is_long c) || has_mixed_signs pieces then None
    else if is_month_between a b c then month_between order a b.value c
    else if is_long a then in_order YearFirst a b c
    else if is_long c then (if is_year_first order then None else in_order order a b c)
    else if in_digits a && in_digits b && in_digits c && has_two_dashes pieces then in_order YearFirst a b c
    else in_order order a b c

-- what three items of a text of these tokens say as a year, a month and a day
abbrev pub plain_reading : List Piece → Order → List Item → Option Reading
plain_reading pieces order (Number a ∷ Month m ∷ Number c ∷ []) = month_between order a m c
plain_reading pieces order (Month m ∷ Number a ∷ Number c ∷ []) = month_in_front pieces m a c
plain_reading pieces order (Number a ∷ Number b ∷ Number c ∷ []) = three_numbers pieces order a b c
plain_reading pieces order _ = None

-- the items behind a weekday or a day of a decade, or three items before one
abbrev pub beside_weekday : List Item → List Item
beside_weekday (Weekday w ∷ rest) = rest
beside_weekday (DecadeDay n ∷ rest) = rest
beside_weekday (a ∷ b ∷ c ∷ Weekday w ∷ []) = a ∷ b ∷ c ∷ []
beside_weekday (a ∷ b ∷ c ∷ DecadeDay n ∷ []) = a ∷ b ∷ c ∷ []
beside_weekday items = items

-- the weekday of a number in a month by name, and the year
abbrev pub weekday_in_month : List Item → Option Reading
weekday_in_month (Number n ∷ Weekday w ∷ Month m ∷ Number year ∷ []) =
    if is_long n then None else Some (Civil year (NumberedWeekday n.value w m))
weekday_in_month items = None

abbrev pub named_reading : Option Naming → Option Reading
named_reading None = None
named_reading (Some n) = Some (Civil n.year (Feast n.feast n.place))

abbrev pub or_reading : Option Reading → Option Reading → Option Reading
or_reading None other = other
or_reading (Some reading) other = Some reading

-- what items of a text of these tokens say as a day of a year: by a month and a day, beside a weekday or alone; by a
-- weekday in a month; or by a feast
abbrev pub civil_reading : List Piece → Order → List Item → Option Reading
civil_reading pieces order items =
    or_reading (plain_reading pieces order (beside_weekday items))
    (or_reading (weekday_in_month items) (named_reading (feast_naming items)))

abbrev pub is_kalends : Mark → Bool
is_kalends Kalends = true
is_kalends _ = false

-- by charters the days before the Kalends of January are of the year that ends
abbrev pub charter_year : Bool → ℕ → Mark → ℕ → ℕ → ℕ
charter_year charters count mark month year =
    if charters && is_kalends mark && (month == 1) && nat_le 2 count then year + 1 else year

abbrev pub marked : Bool → ℕ → Mark → ℕ → Numeral → Option Reading
marked charters count mark month year =
    if is_of_calendar year.year
    then Some (Roman (charter_year charters count mark month year.value) month mark count) else None

-- what items say as a Roman date
abbrev pub roman_reading : Bool → List Item → Option Reading
roman_reading charters (Number n ∷ Marked mark ∷ Month m ∷ Number y ∷ []) = marked charters n.value mark m y
roman_reading charters (Marked mark ∷ Month m ∷ Number y ∷ []) = marked charters 1 mark m y
roman_reading charters _ = None
