-- Reading Roman dates from left to right.
use Rattle.std.specs.Prelude.{ℕ, List, [], ◌∷◌, Option, Some, None, ℤ, ◌==◌, if◌then◌else◌, codes}
use Rattle.std.specs.Char.{to_ascii_lowercase}
use Rattle.std.specs.Str.{str_eq_ignore_ascii_case}
use Rattle.solar_calendars.specs.declared.roman_date.RomanName.{RomanName}
use Rattle.solar_calendars.specs.declared.roman_date.RomanName.TheVariants.{Kalends, Nones, Ides, SecondSixth}
use Rattle.date_texts.specs.private.Reading.{number_at, ◌>>=◌, part_at, year_at, all_read}

-- the count of a Roman name, of one or two digits to the end
unfoldable pub count_at : List ℕ → Option ℕ
count_at bytes = do
  count ← number_at 1 bytes
  all_read count.1 count.0

-- a letter and a count
unfoldable pub counted_at : List ℕ → Option RomanName
counted_at [] = None
counted_at (c ∷ cs) =
    if to_ascii_lowercase c == 107 then (count_at cs >>= λ n. Some (Kalends n))
    else if to_ascii_lowercase c == 110 then (count_at cs >>= λ n. Some (Nones n))
    else if to_ascii_lowercase c == 105 then (count_at cs >>= λ n. Some (Ides n))
    else None

unfoldable pub name_at : List ℕ → Option RomanName
name_at bytes = if str_eq_ignore_ascii_case bytes (codes "K6B") then Some SecondSixth else counted_at bytes

unfoldable pub roman_at : List ℕ → Option (ℤ × ℕ × RomanName)
roman_at bytes = do
  year ← part_at year_at 45 bytes
  month ← part_at (number_at 1) 45 year.1
  name ← name_at month.1
  Some (year.0, month.0, name)
