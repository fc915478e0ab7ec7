-- What contracts say of a year, month and day, and of a fault.
use Rattle.std.specs.Prelude.{◌≡◌, ◌↔◌, ℕ, ℤ, pos, neg_ℤ, ◌≤◌, ◌≤ℤ◌, Result, Err, IsOk, IfOk}
use Rattle.day_numbers.specs.Days.{IsDayNumber}
use Rattle.day_numbers.specs.declared.day.Day.{Day}
use Rattle.day_numbers.specs.declared.calendar.DateFault.{DateFault}
use Rattle.day_numbers.specs.declared.calendar.DateFault.TheVariants.{NoSuchDate, OutOfRange}

-- z lies from low to high, both included
abbrev pub IsBetween : ℤ → ℤ → ℤ → Type 0
IsBetween low high z = (low ≤ℤ z) × (z ≤ℤ high)

-- a year that a date can be written with
abbrev pub IsYear : ℤ → Type 0
IsYear year = IsBetween (neg_ℤ (pos 99_999)) (pos 99_999) year

-- the numbers that a `Ymd` holds
abbrev pub IsYmd : ℤ → ℕ → ℕ → Type 0
IsYmd year month day = IsYear year × (month ≤ 99) × (day ≤ 99)

-- the number of the refusal that a fault becomes
abbrev pub fault_number : DateFault → ℕ
fault_number NoSuchDate = 6
fault_number OutOfRange = 7

-- the result of asking for the day of a date, where n is the day number of a date that the calendar has: the day; or
-- one fault where it has no such date, and another where it has the date and n is out of range
pub record IsDayOf {F : Type 0} (IsDate : Type 0) (n : ℤ) (unknown outside : F) (result : Result Day F) : Type 0 where
  pub succeeds : IsOk result ↔ (IsDate × IsDayNumber n)
  pub value : IfOk result (λ day. day.number ≡ n)
  pub no_such_date : (result ≡ Err unknown) ↔ ¬ IsDate
  pub out_of_range : (result ≡ Err outside) ↔ (IsDate × ¬ (IsDayNumber n))
