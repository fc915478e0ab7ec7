-- Names that move one place on in a round from each day to the next (Reingold and Dershowitz,
-- Calendrical Calculations, "The Mayan Calendars").
use Rattle.std.specs.Prelude.{◌≡◌, ℕ, suc, ◌+◌, ◌-◌, ◌==◌, if◌then◌else◌, ℤ, pos, negsuc, neg_ℤ, ◌+ℤ◌, ◌-ℤ◌}
use Rattle.std.specs.Fn.{iterate}

-- the day number of the day whose long count is 0.0.0.0.0
abbrev pub epoch : ℤ
epoch = neg_ℤ (pos 1_137_142)

-- the number after k in the round of the numbers 1 to n, where 1 follows n
abbrev pub number_after : ℕ → ℕ → ℕ
number_after n k = if k == n then 1 else k + 1

-- and the number before it
abbrev pub number_before : ℕ → ℕ → ℕ
number_before n k = if k == 1 then n else k - 1

-- a step on for each day after the first, or a step back for each day before it
unfoldable pub after_days : {A : Type 0} → (A → A) → (A → A) → A → ℤ → A
after_days on back first (pos n) = iterate on n first
after_days on back first (negsuc n) = iterate back (suc n) first

-- the number of a day in the round of the numbers 1 to n, which is `first` on the epoch and moves one
-- place on each day
abbrev pub round_number : ℕ → ℕ → ℤ → ℕ
round_number n first day = after_days (number_after n) (number_before n) first (day -ℤ epoch)

-- a step on leads from the name of each day to the name of the next
abbrev pub StepsOnEachDay : {A : Type 0} → (A → A) → (ℤ → A) → Type 0
StepsOnEachDay on name_of = (day : ℤ) → name_of (day +ℤ pos 1) ≡ on (name_of day)
