-- Roman day names: a day of the Julian calendar is counted back from the next Kalends, Nones or Ides, which has the
-- count 1 itself (Reingold and Dershowitz, Calendrical Calculations, "Roman Nomenclature"). These three are the
-- principal days of a month.
use Rattle.std.specs.Prelude.{◌≡◌, ◌↔◌, ℕ, ◌-◌, ◌≤◌, Bool, IsTrue, ◌==◌, ◌&&◌, ◌||◌, nat_le, if◌then◌else◌}
use Rattle.std.specs.Prelude.{ℤ, pos, ◌-ℤ◌, ◌<ℤ◌}
use Rattle.day_numbers.specs.Rules.{without_zero, HasYear, day_number_of}
use Rattle.solar_calendars.specs.Julian.{julian_rules, is_julian_leap}
use Rattle.solar_calendars.specs.declared.roman_date.RomanName.{RomanName}
use Rattle.solar_calendars.specs.declared.roman_date.RomanName.TheVariants.{Kalends, Nones, Ides, SecondSixth}

-- the Ides are the 15th of March, May, July and October and the 13th of the other months
abbrev pub day_of_ides : ℕ → ℕ
day_of_ides month = if (month == 3) || (month == 5) || (month == 7) || (month == 10) then 15 else 13

-- the day number of the principal day that a name counts back from: the Kalends are day 1 of the month, and the Nones
-- stand 8 days before the Ides
abbrev pub principal_day : ℤ → ℕ → RomanName → ℤ
principal_day year month (Nones count) = day_number_of julian_rules year month (day_of_ides month - 8)
principal_day year month (Ides count) = day_number_of julian_rules year month (day_of_ides month)
principal_day year month name = day_number_of julian_rules year month 1

-- before the Kalends of March of a leap year two days are the sixth
abbrev pub has_two_sixths : ℤ → ℕ → Bool
has_two_sixths year month = (month == 3) && is_julian_leap year

-- the count of a name
abbrev pub count_of : RomanName → ℕ
count_of (Kalends count) = count
count_of (Nones count) = count
count_of (Ides count) = count
count_of SecondSixth = 6

-- how many days a name lies before its principal day: one less than its count; the second sixth lies 5 days before,
-- and the first sixth and all that are counted before it one day more
abbrev pub days_back : Bool → RomanName → ℤ
days_back two_sixths (Kalends count) = if two_sixths && nat_le 6 count then pos count else pos count -ℤ pos 1
days_back two_sixths (Nones count) = pos count -ℤ pos 1
days_back two_sixths (Ides count) = pos count -ℤ pos 1
days_back two_sixths SecondSixth = pos 5

-- the day number of a Roman date; the year and the month are those of its principal day
abbrev pub roman_day_number : ℤ → ℕ → RomanName → ℤ
roman_day_number year month name = principal_day year month name -ℤ days_back (has_two_sixths year month) name

-- a Roman date is valid: the Julian calendar has the year and the month, a second sixth is named only where there are
-- two, and the principal day of the name is the first from the day on, so that any principal day lies before the day
-- exactly where it lies before this one
unfoldable pub IsRomanDate : ℤ → ℕ → RomanName → Type 0
IsRomanDate y m name =
    HasYear without_zero y × (1 ≤ m) × (m ≤ 12) × (name ≡ SecondSixth → IsTrue (has_two_sixths y m))
    × ((z : ℤ) (k : ℕ) (other : RomanName) → HasYear without_zero z → 1 ≤ k → k ≤ 12
    → (principal_day z k other <ℤ roman_day_number y m name) ↔ (principal_day z k other <ℤ principal_day y m name))
