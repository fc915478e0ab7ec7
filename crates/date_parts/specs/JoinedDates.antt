-- One column of dates of three columns, which have their years, months and days.
use Rattle.std.specs.Prelude.{◌&&◌, ◌++◌, ◌∷◌, ℕ, List, [], drop, get_or, if◌then◌else◌, map, take}
use Rattle.register_records.specs.Entries.{Fields, text_records}
use Rattle.sheets.specs.Sheets.{filled, records_text, widest}
use Rattle.written_dates.specs.Fields.{without_blanks}
use Rattle.written_dates.specs.Times.{are_digits}
use Rattle.date_parts.specs.declared.places.DatePlaces.{DatePlaces}

-- three texts with dashes
abbrev pub dashed : List ℕ → List ℕ → List ℕ → List ℕ
dashed first second third = first ++ 45 ∷ (second ++ 45 ∷ third)

-- two texts with a blank between them, or the one that is not empty
abbrev pub spaced : List ℕ → List ℕ → List ℕ
spaced [] second = second
spaced (byte ∷ first) [] = byte ∷ first
spaced (byte ∷ first) (other ∷ second) = byte ∷ first ++ 32 ∷ (other ∷ second)

-- a date as registers have it where all three are digits only; else its day, month and year, as far as they are there
abbrev pub joined_date : List ℕ → List ℕ → List ℕ → List ℕ
joined_date year month day =
    if are_digits year && (are_digits month && are_digits day) then dashed year month day
    else spaced (spaced day month) year

-- the three fields of a record, without the blanks at their ends
abbrev pub year_in : DatePlaces → Fields → List ℕ
year_in places fields = without_blanks (get_or fields places.year [])

abbrev pub month_in : DatePlaces → Fields → List ℕ
month_in places fields = without_blanks (get_or fields places.month [])

abbrev pub day_in : DatePlaces → Fields → List ℕ
day_in places fields = without_blanks (get_or fields places.day [])

-- the date of a record, and the name of the column of dates
abbrev pub date_in : DatePlaces → Fields → List ℕ
date_in places fields = joined_date (year_in places fields) (month_in places fields) (day_in places fields)

abbrev pub heading_in : DatePlaces → Fields → List ℕ
heading_in places names = dashed (year_in places names) (month_in places names) (day_in places names)

-- a record with empty fields up to so many, and one field more behind them
abbrev pub with_field : ℕ → List ℕ → Fields → Fields
with_field width field fields = filled width fields ++ field ∷ []

abbrev pub with_date : DatePlaces → ℕ → Fields → Fields
with_date places width fields = with_field width (date_in places fields) fields

-- the names and the records below them, each with one field more
abbrev pub dated_records : DatePlaces → ℕ → List Fields → List Fields
dated_records places width [] = []
dated_records places width (names ∷ records) =
    with_field width (heading_in places names) names ∷ map (with_date places width) records

-- the records of a sheet whose names stand below so many others, which stay as they are
abbrev pub joined_records : DatePlaces → ℕ → List Fields → List Fields
joined_records places above records =
    take above records ++ dated_records places (widest (drop above records)) (drop above records)

-- their text
abbrev pub joined_text : ℕ → DatePlaces → ℕ → List ℕ → List ℕ
joined_text delimiter places above sheet =
    records_text delimiter (joined_records places above (text_records delimiter sheet))
