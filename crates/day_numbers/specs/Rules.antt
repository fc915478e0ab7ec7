-- A calendar by its rules: where its years begin to count, and how long the months of each year are.
-- Year lengths, year starts, valid dates and day numbers are sums over these lists of months and years
-- (Reingold and Dershowitz, Calendrical Calculations: a fixed day number is the number of days that have passed).
use Rattle.std.specs.Prelude.{ℕ, zero, suc, ◌+◌, ◌≤◌, Bool, true, List, [], ◌∷◌, ◌==◌, if◌then◌else◌, ℤ, pos}
use Rattle.std.specs.Prelude.{negsuc, neg_ℤ, ◌+ℤ◌, ◌-ℤ◌, not, ◌&&◌, nat_le, unsigned_abs, Option, Some, None}
use Rattle.std.specs.List.{list_any}
use Rattle.day_numbers.specs.Days.{IsSinceFirstDay}
use Rattle.day_numbers.specs.declared.rules.Month.{Month}

-- which years a calendar has: 1, 2, ..; or all numbers; or all but 0, so that year 1 follows year -1
pub data Years : Type 0 where
  from_one : Years
  with_zero : Years
  without_zero : Years

-- a calendar as data
pub record Rules : Type 0 where
  -- the day number of the first day of year 1
  pub epoch : ℤ
  pub years : Years
  -- the months of each year, in the order in which they run
  pub months : ℤ → List Month

-- a calendar with these years has this one
abbrev pub HasYear : Years → ℤ → Type 0
HasYear years (pos (suc n)) = Unit {0}
HasYear with_zero year = Unit {0}
HasYear without_zero (negsuc n) = Unit {0}
HasYear years year = ⊥

-- months numbered from k on, of these lengths
abbrev pub numbered_from : ℕ → List ℕ → List Month
numbered_from k [] = []
numbered_from k (d ∷ ds) = record { number = k; days = d } ∷ numbered_from (suc k) ds

-- the days of these months together
abbrev pub total_days : List Month → ℕ
total_days [] = 0
total_days (m ∷ ms) = m.days + total_days ms

-- the days of the month of this number, and 0 where there is none
abbrev pub days_of_month : List Month → ℕ → ℕ
days_of_month [] k = 0
days_of_month (m ∷ ms) k = if m.number == k then m.days else days_of_month ms k

-- the days of the months that run before the month of this number
abbrev pub days_before_month : List Month → ℕ → ℕ
days_before_month [] k = 0
days_before_month (m ∷ ms) k = if m.number == k then 0 else m.days + days_before_month ms k

-- the sum of the lengths of the years 1 to n
unfoldable pub days_of_years : (ℤ → ℕ) → ℕ → ℕ
days_of_years length_of zero = 0
days_of_years length_of (suc n) = days_of_years length_of n + length_of (pos (suc n))

-- the year that lies k years before year 1, and also how many years before year 1 a year lies
abbrev pub year_before : Years → ℤ → ℤ
year_before with_zero k = pos 1 -ℤ k
year_before years k = neg_ℤ k

-- the day number of the first day of a year: the epoch and the lengths of the years from year 1 up to it,
-- or, before year 1, the epoch less the lengths of the years from it up to year 1
unfoldable pub start_of_year : Years → ℤ → (ℤ → ℕ) → ℤ → ℤ
start_of_year years epoch length_of (pos (suc n)) = epoch +ℤ pos (days_of_years length_of n)
start_of_year years epoch length_of year =
    epoch -ℤ pos (days_of_years (λ k. length_of (year_before years k)) (unsigned_abs (year_before years year)))

abbrev pub year_length : Rules → ℤ → ℕ
year_length r y = total_days (r.months y)

abbrev pub year_start : Rules → ℤ → ℤ
year_start r y = start_of_year r.years r.epoch (year_length r) y

-- the calendar has this date
abbrev pub IsDateOf : Rules → ℤ → ℕ → ℕ → Type 0
IsDateOf r y m d = HasYear r.years y × (1 ≤ d) × (d ≤ days_of_month (r.months y) m)

-- the day number of a date; a date's day counts from 1
abbrev pub day_number_of : Rules → ℤ → ℕ → ℕ → ℤ
day_number_of r y m d = year_start r y +ℤ pos (days_before_month (r.months y) m) +ℤ pos d -ℤ pos 1

-- a calendar that begins with year 1 has a first day, its epoch; the others have none
abbrev pub first_day_by : Years → ℤ → Option ℤ
first_day_by from_one epoch = Some epoch
first_day_by years epoch = None

abbrev pub first_day_of : Rules → Option ℤ
first_day_of r = first_day_by r.years r.epoch

-- the calendar has a date on this day
abbrev pub HasDayOf : Rules → ℤ → Type 0
HasDayOf r n = IsSinceFirstDay (first_day_of r) n

-- a month has this number
abbrev pub has_number : List Month → ℕ → Bool
has_number ms k = list_any (λ m. m.number == k) ms

-- no two months have one number, and numbers and lengths are small
abbrev pub are_months : List Month → Bool
are_months [] = true
are_months (m ∷ ms) = not (has_number ms m.number) && nat_le m.number 99 && nat_le m.days 99 && are_months ms
