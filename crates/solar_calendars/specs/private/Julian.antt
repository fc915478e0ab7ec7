-- Years between a year and year 1, where there is no year 0.
use Rattle.std.specs.Prelude.{ℤ, pos, negsuc, ◌-ℤ◌}

-- how many years there are from year 1 to the year before this one; less than 0 where the year is before year 1
abbrev pub years_before : ℤ → ℤ
years_before (pos n) = pos n -ℤ pos 1
years_before (negsuc n) = negsuc n
