-- Each day lies in the year of weeks of its week's Thursday.
use Rattle.std.proofs.Common.{◌≡◌, ℕ, ◌+◌, ◌*◌, ◌/◌, ◌≤◌, ◌<◌, arith}
use Rattle.std.proofs.Common.{ℤ, pos, ◌+ℤ◌, ◌≤ℤ◌, ◌<ℤ◌}
use Rattle.solar_calendars.specs.IsoWeek.{monday_on_or_before, week_year_start, IsWeekDate, week_day_number}
use Rattle.solar_calendars.proofs.Common.{gregorian_rules, signed_arith, year_length, year_start}
use Rattle.solar_calendars.proofs.GregorianLemmas.{january, length_is}

-- the code's first day of a year of weeks, three days after 1 January
pub week_year_is : (y f m z : ℤ) → f ≡ year_start gregorian_rules y → m ≡ f +ℤ pos 3 → z ≡ monday_on_or_before m
    → z ≡ week_year_start y
unfolding week_year_start
week_year_is y f m z e p s = omega (arith, signed_arith, e, p, s)

-- the Gregorian year of the Thursday in a day's week is the year of weeks of the day
pub in_week_year : (n m y : ℤ) → m ≡ monday_on_or_before n → year_start gregorian_rules y ≤ℤ (m +ℤ pos 3)
    → (m +ℤ pos 3) <ℤ (year_start gregorian_rules y +ℤ pos (year_length gregorian_rules y))
    → (week_year_start y ≤ℤ n) × (n <ℤ week_year_start (y +ℤ pos 1))
unfolding week_year_start
in_week_year n m y e low high = omega (arith, signed_arith, e, low, high, january y, length_is y)

-- the Thursday of its week is as many whole weeks after the first Thursday of that year
weeks_after : (n m y : ℤ) (p : ℕ) → m ≡ monday_on_or_before n → year_start gregorian_rules y +ℤ pos p ≡ m +ℤ pos 3
    → week_year_start y +ℤ pos (7 * (p / 7)) ≡ m
unfolding week_year_start
weeks_after n m y p e s = omega (arith, signed_arith, e, s)

-- a week has seven days from its Monday on
pub from_monday : (n m : ℤ) → m ≡ monday_on_or_before n → (m ≤ℤ n) × (n <ℤ (m +ℤ pos 7))
from_monday n m e = omega (arith, signed_arith, e)

-- the week date from the places of the Thursday in its year and of the day in its week
pub week_date_is : (n m y : ℤ) (p d : ℕ) → m ≡ monday_on_or_before n
    → year_start gregorian_rules y +ℤ pos p ≡ m +ℤ pos 3 → p < year_length gregorian_rules y → m +ℤ pos d ≡ n +ℤ pos 1
    → IsWeekDate y (p / 7 + 1) d × (week_day_number y (p / 7 + 1) d ≡ n)
week_date_is n m y p d e s short r =
    let weeks = weeks_after n m y p e s in
    let days = from_monday n m e in
    let number : week_day_number y (p / 7 + 1) d ≡ n = omega (arith, signed_arith, weeks, r, days) in
    let year = in_week_year n m y e (omega (arith, signed_arith, s)) (omega (arith, signed_arith, s, short)) in
    let low : 1 ≤ d = omega (arith, signed_arith, days, r) in
    ((omega arith, low, omega (arith, signed_arith, days, r), rw number year.1), number)
