-- When a Hebrew year opens, by the numbers that the code finds it from.
use Rattle.std.specs.Prelude.{◌≡◌, ℕ, Bool, nat_lt, if◌then◌else◌, ◌+◌, ◌-◌, ◌*◌, ◌/◌, ◌%◌, pos, ◌+ℤ◌}
use Rattle.lunar_calendars.specs.Hebrew.{epoch, new_year_of}

-- the days after the Monday of the week of its molad, from the parts between noon of the Saturday before and the molad
abbrev pub days_from_monday : Bool → Bool → ℕ → ℕ
days_from_monday leap after_leap time =
    if nat_lt time (if after_leap then 49_189 else 51_840) then 0
    else (if nat_lt time (if leap then 77_760 else 68_244) then 1 else (if nat_lt time 129_600 then 3 else 5))

-- the day of its new year, the Monday of the week of its molad, which begins at noon of a Saturday, and what the months
-- before it leave in nineteenths of a month, and the weeks before its molad in parts
abbrev pub IsOpening : (year day monday part time : ℕ) → Type 0
IsOpening year day monday part time =
    (epoch +ℤ pos day ≡ new_year_of year) × (monday ≡ 7 * ((38_004 + 765_433 * ((235 * year - 234) / 19)) / 181_440))
    × (part ≡ (235 * year - 234) % 19) × (time ≡ (38_004 + 765_433 * ((235 * year - 234) / 19)) % 181_440)
