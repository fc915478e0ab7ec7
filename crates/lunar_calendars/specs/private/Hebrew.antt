-- How long a Hebrew year is.
use Rattle.std.specs.Prelude.{ℕ, Bool, ◌≤◌, if◌then◌else◌}

-- so many days may be the length of a common year, or of a leap year
abbrev pub IsYearLength : Bool → ℕ → Type 0
IsYearLength leap days = ((if leap then 383 else 353) ≤ days) × (days ≤ (if leap then 385 else 355))
