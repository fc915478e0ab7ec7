-- What a day is called as a function, for definitions that stand on it. That it says the same is proved of `name_on`, whose
-- result is by both.
use Rattle.std.specs.Prelude.{ℕ, zero, suc, Bool, false, ◌&&◌, ◌==◌, if◌then◌else◌, List, [], ◌∷◌, Option, Some, None, ℤ}
use Rattle.church_year.specs.declared.churches.Church.{Church}
use Rattle.church_year.specs.FeastDates.{date_in, feast_date_in}
use Rattle.church_days.specs.DayNames.{DayName, day_names}

abbrev pub is_date : Option (ℕ × ℕ) → ℕ × ℕ → Bool
is_date None date = false
is_date (Some found) date = (found.0 == date.0) && (found.1 == date.1)

-- the name means this month and day of a year
abbrev pub means : Church → ℕ → ℕ × ℕ → DayName → Bool
means church year date name = is_date (feast_date_in church year name.feast name.place) date

-- the first of these names that does
unfoldable pub first_name : Church → ℕ → ℕ × ℕ → List DayName → Option (List ℕ)
first_name church year date [] = None
first_name church year date (name ∷ rest) =
    if means church year date name then Some name.text else first_name church year date rest

abbrev pub or_earlier : Option (ℕ × ℕ) → (ℕ × ℕ → Option (List ℕ)) → Option (List ℕ) → Option (List ℕ)
or_earlier None name earlier = earlier
or_earlier (Some date) name earlier = name date

-- what day n is called, where it is in one of so many years
unfoldable pub name_until : Church → ℤ → ℕ → Option (List ℕ)
name_until church n zero = None
name_until church n (suc y) =
    or_earlier (date_in church (suc y) n) (λ date. first_name church (suc y) date day_names) (name_until church n y)

unfoldable pub church_name : Church → ℤ → Option (List ℕ)
church_name church n = name_until church n 9_999
