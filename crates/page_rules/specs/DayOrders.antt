-- The order of entries by their days.
use Rattle.std.specs.Prelude.{◌≡◌, ◌==◌, ◌<◌, ◌⊎◌, ℕ, List, get_or, if◌then◌else◌, length}
use Rattle.std.specs.List.{range_with_len}
use Rattle.std.specs.List.Sorted.{IsPermutation}
use Rattle.page_rules.specs.declared.day_orders.TheConstants.{NO_DAY}

-- the day of the entry at an index; that of an entry without one is the last of all
abbrev pub day_of : List ℕ → ℕ → ℕ
day_of days index = get_or days index NO_DAY

-- the entry at one index comes before that at another: its day does; or they have the same day, and it stands before
abbrev pub ComesBefore : List ℕ → ℕ → ℕ → Type 0
ComesBefore days one other =
    (day_of days one < day_of days other) ⊎ ((day_of days one ≡ day_of days other) × (one < other))

-- these are the indices of all entries, each once, in the order of their days
pub record IsDayOrder (days order : List ℕ) : Type 0 where
  pub all : IsPermutation (range_with_len 0 (length days)) order
  pub in_order : (i j : ℕ) → i < j → j < length order → ComesBefore days (get_or order i 0) (get_or order j 0)

-- the day by which an entry of a first and a last day is sorted: the first, or where it has none, the last
abbrev pub sorting_day : ℕ → ℕ → ℕ
sorting_day first last = if first == NO_DAY then last else first

-- these are the days by which entries with these first and last days are sorted
pub record AreSortingDays (first last days : List ℕ) : Type 0 where
  pub all : length days ≡ length first
  pub each : (i : ℕ) → i < length first → day_of days i ≡ sorting_day (day_of first i) (day_of last i)
