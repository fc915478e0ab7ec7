-- The definitions computed on dates that are known from elsewhere.
use Rattle.std.proofs.Common.{◌≡◌, refl, arith, pos, neg_ℤ}
use Rattle.day_numbers.specs.Rules.{start_of_year, days_of_years}
use Rattle.solar_calendars.specs.IsoWeek.{week_year_start, week_day_number}
use Rattle.solar_calendars.specs.ThirteenMonths.{coptic_rules, ethiopic_rules, egyptian_rules, armenian_rules}
use Rattle.solar_calendars.specs.Roman.{roman_day_number}
use Rattle.solar_calendars.specs.French.{french_rules, republican_rules}
use Rattle.solar_calendars.proofs.Common.{day_number_of, gregorian_rules, IsDateOf, julian_rules, Kalends, SecondSixth}

-- 29 February of year 0, and the day of the Ethiopic epoch
gregorian_days : (day_number_of gregorian_rules (pos 0) 2 29 ≡ neg_ℤ (pos 306))
    × (day_number_of gregorian_rules (pos 8) 8 27 ≡ pos 2_796)
unfolding start_of_year days_of_years
gregorian_days = (refl, refl)

-- 29 February of year -1, the year before year 1, and the Ides of March of year -44
julian_days : (day_number_of julian_rules (neg_ℤ (pos 1)) 2 29 ≡ neg_ℤ (pos 308))
    × (day_number_of julian_rules (neg_ℤ (pos 44)) 3 15 ≡ neg_ℤ (pos 15_999))
unfolding start_of_year days_of_years
julian_days = (refl, refl)

-- the last day of week 52 of year 0, a Sunday, and the Monday after it
week_days : (week_day_number (pos 0) 52 7 ≡ pos 0) × (week_day_number (pos 1) 1 1 ≡ pos 1)
unfolding start_of_year days_of_years week_year_start
week_days = (refl, refl)

-- the second sixth and the first before the Kalends of March of year -1, which is a leap year
roman_days : (roman_day_number (neg_ℤ (pos 1)) 3 SecondSixth ≡ neg_ℤ (pos 312))
    × (roman_day_number (neg_ℤ (pos 1)) 3 (Kalends 6) ≡ neg_ℤ (pos 313))
unfolding start_of_year days_of_years
roman_days = (refl, refl)

-- the last days of years of thirteen months, leap where they have a sixth day
thirteen_month_days : (day_number_of coptic_rules (pos 3) 13 6 ≡ pos 104_700)
    × (day_number_of ethiopic_rules (pos 3) 13 6 ≡ pos 3_891)
    × (day_number_of egyptian_rules (pos 1) 13 5 ≡ neg_ℤ (pos 272_423))
    × (day_number_of armenian_rules (pos 1) 13 5 ≡ pos 201_807)
    × (day_number_of french_rules (pos 4) 13 6 ≡ pos 655_875)
    × (day_number_of republican_rules (pos 3) 13 6 ≡ pos 655_510)
unfolding start_of_year days_of_years
thirteen_month_days = (refl, refl, refl, refl, refl, refl)

-- there is no year 0, and these years are common
no_dates : ¬ (IsDateOf julian_rules (pos 0) 1 1) × ¬ (IsDateOf coptic_rules (pos 4) 13 6)
    × ¬ (IsDateOf french_rules (pos 4_000) 13 6) × ¬ (IsDateOf republican_rules (pos 4) 13 6)
no_dates = (λ h. h.0, λ h. omega (arith, h.2), λ h. omega (arith, h.2), λ h. omega (arith, h.2))
