-- The text of EDTF (ISO 8601-2) for a first and a last day, by their Gregorian dates.
use Rattle.std.specs.Prelude.{◌≡◌, ℕ, ℤ, Bool, ◌&&◌, ◌==◌, if◌then◌else◌, List, [], ◌∷◌, ◌++◌, codes}
use Rattle.std.specs.Prelude.{Option, Some, None}
use Rattle.std.specs.Str.{bytes_eq}
use Rattle.date_texts.specs.Buffers.{padded}
use Rattle.day_numbers.specs.Rules.{IsDateOf, day_number_of, days_of_month}
use Rattle.day_numbers.specs.declared.ymd.Ymd.{Ymd}
use Rattle.solar_calendars.specs.Gregorian.{gregorian_rules}
use Rattle.date_texts.specs.Numerals.{canonical_year}
use Rattle.date_spans.specs.declared.edtf.Precision.{Precision}
use Rattle.date_spans.specs.declared.edtf.Precision.TheVariants.{Day, Month, Year}
use Rattle.date_spans.specs.declared.edtf.Sense.{Sense}

-- the Gregorian date of day n
pub record IsOn (n : ℤ) (date : Ymd) : Type 0 where
  pub has : IsDateOf gregorian_rules date.year date.month date.day
  pub number : day_number_of gregorian_rules date.year date.month date.day ≡ n

-- a year, a year and a month, or a date: 1806, 1806-05, 1806-05-12
abbrev pub date_text : Precision → Ymd → List ℕ
date_text Year date = canonical_year date.year
date_text Month date = canonical_year date.year ++ 45 ∷ padded 2 date.month
date_text Day date = canonical_year date.year ++ 45 ∷ (padded 2 date.month ++ 45 ∷ padded 2 date.day)

-- the first and the last day of a month, and of a year
abbrev pub begins_month : Ymd → Bool
begins_month date = date.day == 1

abbrev pub ends_month : Ymd → Bool
ends_month date = date.day == days_of_month (gregorian_rules.months date.year) date.month

abbrev pub begins_year : Ymd → Bool
begins_year date = begins_month date && (date.month == 1)

abbrev pub ends_year : Ymd → Bool
ends_year date = ends_month date && (date.month == 12)

-- from a day to a day are whole years, whole months, or days
abbrev pub precision_of : Ymd → Ymd → Precision
precision_of a b =
    if begins_year a && ends_year b then Year
    else if begins_month a && ends_month b then Month
    else Day

-- % where it is about then and uncertain, ~ where it is about then, and ? where it is uncertain
abbrev pub mark : Sense → List ℕ
mark sense =
    if sense.about && sense.uncertain then codes "%"
    else if sense.about then codes "~"
    else if sense.uncertain then codes "?"
    else []

-- two texts that are not the same: one day of a set, or all days from one to the other; the mark stands behind both
abbrev pub joined : Sense → List ℕ → List ℕ → List ℕ
joined sense x y =
    if sense.one_of
    then codes "[" ++ (x ++ (mark sense ++ (codes ".." ++ (y ++ (mark sense ++ codes "]")))))
    else x ++ (mark sense ++ (codes "/" ++ (y ++ mark sense)))

abbrev pub closed_by : Sense → List ℕ → List ℕ → List ℕ
closed_by sense x y = if bytes_eq x y then x ++ mark sense else joined sense x y

abbrev pub closed : Sense → Ymd → Ymd → List ℕ
closed sense a b = closed_by sense (date_text (precision_of a b) a) (date_text (precision_of a b) b)

-- the text of a first and a last day, of which one may be open; none where both are
abbrev pub IsEdtf : Sense → Option ℤ → Option ℤ → List ℕ → Type 0
IsEdtf sense None None text = text ≡ []
IsEdtf sense (Some n) None text =
    (a : Ymd) × IsOn n a × (text ≡ date_text Day a ++ (mark sense ++ codes "/.."))
IsEdtf sense None (Some k) text =
    (b : Ymd) × IsOn k b × (text ≡ codes "../" ++ (date_text Day b ++ mark sense))
IsEdtf sense (Some n) (Some k) text =
    (a b : Ymd) × IsOn n a × IsOn k b × (text ≡ closed sense a b)
