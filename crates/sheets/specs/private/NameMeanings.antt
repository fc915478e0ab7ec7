-- Texts that mean a day by its number, or by those of a month and a day.
use Rattle.std.specs.Prelude.{◌≡◌, ◌≤◌, ℕ, ℤ, List}
use Rattle.std.specs.Fmt.{signed_decimal}
use Rattle.sheets.specs.NameMeanings.{IsFewDays, day_name}

abbrev pub AreDays : List ℕ → ℤ → Type 0
AreDays text days = IsFewDays days × (text ≡ signed_decimal days)

abbrev pub IsDayAndDays : List ℕ → ℕ → ℤ → Type 0
IsDayAndDays text day days = (1 ≤ day) × (day ≤ 31) × IsFewDays days × (text ≡ day_name day days)
