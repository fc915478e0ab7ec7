-- Hebrew new years in days from the Monday of the epoch.
use Rattle.std.proofs.Common.{◌≡◌, ℕ, zero, suc, ◌+◌, ◌-◌, ◌*◌, ◌/◌, ◌%◌, ◌≤◌, ◌<◌, Bool, true, false, not, ◌&&◌, ◌||◌}
use Rattle.std.proofs.Common.{◌==◌, nat_le, nat_lt, cond, if◌then◌else◌, refl, arith, ℤ, pos, ◌+ℤ◌}
use Rattle.std.proofs.lemmas.Bool.Decides.{nat_tests}
use Rattle.day_numbers.specs.Days.{weekday_number}
use Rattle.day_numbers.proofs.SignedArithmeticLemmas.{signed_arith}
use Rattle.lunar_calendars.specs.Hebrew.{is_leap_year, epoch, next_allowed, postponed, new_year_of}
use Rattle.lunar_calendars.specs.private.HebrewOpenings.{days_from_monday}
use Rattle.lunar_calendars.proofs.MonthSumLemmas.{months_closed}

weekday_after : (d : ℕ) → weekday_number (epoch +ℤ pos d) ≡ (d + 1) % 7
weekday_after d = omega (arith, signed_arith)

-- the definition's days in days from that Monday
abbrev pub falls_on_place : ℕ → ℕ → Bool
falls_on_place place d = (d + 1) % 7 == place

abbrev pub is_closed : ℕ → Bool
is_closed d = falls_on_place 0 d || falls_on_place 3 d || falls_on_place 5 d

unfoldable pub allowed : ℕ → ℕ
allowed d = if is_closed d then d + 1 else d

abbrev pub opening : Bool → Bool → ℕ → ℕ → ℕ
opening leap after_leap d t =
    if not leap && falls_on_place 2 d && nat_le 9_924 t then d + 2
    else (if after_leap && falls_on_place 1 d && nat_le 16_789 t then d + 1
    else allowed (if nat_le 19_440 t then d + 1 else d))

chosen : (b : Bool) (x y : ℤ) (m n : ℕ) → x ≡ epoch +ℤ pos m → y ≡ epoch +ℤ pos n
    → cond b x y ≡ epoch +ℤ pos (cond b m n)
chosen true x y m n p q = p
chosen false x y m n p q = q

later : (d k : ℕ) → (epoch +ℤ pos d) +ℤ pos k ≡ epoch +ℤ pos (d + k)
later d k = omega (arith, signed_arith)

pub next_allowed_after : (d : ℕ) → next_allowed (epoch +ℤ pos d) ≡ epoch +ℤ pos (allowed d)
unfolding allowed
next_allowed_after d = rw (weekday_after d) (chosen (is_closed d) _ _ _ _ (later d 1) refl)

pub postponed_after : (leap after_leap : Bool) (d t : ℕ)
    → postponed leap after_leap (epoch +ℤ pos d) t ≡ epoch +ℤ pos (opening leap after_leap d t)
postponed_after leap after_leap d t =
    grind (arith, signed_arith, nat_le, chosen, later, weekday_after, falls_on_place, next_allowed_after)

-- the same by the days after the Monday of its week, from the parts between noon of the Saturday before and the molad
IsWeekBy : Bool → Bool → (d q t w : ℕ) → Type 0
IsWeekBy leap after_leap d q t w =
    d + 1 ≡ 7 * q + w → 7 * (q + (25_920 * w + t + 6_480) / 181_440)
    + days_from_monday leap after_leap ((25_920 * w + t + 6_480) % 181_440) ≡ opening leap after_leap d t

week_by : (leap after_leap : Bool) (d q t : ℕ) → t < 25_920 → (w : ℕ) → w < 7 → IsWeekBy leap after_leap d q t w
unfolding IsWeekBy allowed
week_by leap after_leap d q t h (suc (suc (suc (suc (suc (suc (suc k))))))) less = absurd (omega arith)
week_by leap after_leap d q t h w less = λ e. grind (arith, nat_tests)

pub opens_by_week : (leap after_leap : Bool) (parts : ℕ)
    → 7 * ((32_400 + parts) / 181_440) + days_from_monday leap after_leap ((32_400 + parts) % 181_440)
    ≡ opening leap after_leap (parts / 25_920) (parts % 25_920)
unfolding IsWeekBy
opens_by_week leap after_leap parts =
    let d = parts / 25_920 in
    let from = 25_920 * ((d + 1) % 7) + parts % 25_920 + 6_480 in
    let week : (32_400 + parts) / 181_440 ≡ (d + 1) / 7 + from / 181_440 = omega arith in
    let time : (32_400 + parts) % 181_440 ≡ from % 181_440 = omega arith in
    rw (week, time) (week_by leap after_leap d ((d + 1) / 7) (parts % 25_920) (omega arith) ((d + 1) % 7) (omega arith)
    (omega arith))

-- the parts from that Monday to the molad of the year after n years, and the days to that new year
abbrev pub parts_after : ℕ → ℕ
parts_after n = 5_604 + 765_433 * ((235 * n + 1) / 19)

unfoldable pub new_year_after : ℕ → ℕ
new_year_after n = opening (is_leap_year (suc n)) (is_leap_year n) (parts_after n / 25_920) (parts_after n % 25_920)

pub new_year_is : (n : ℕ) → new_year_of (suc n) ≡ epoch +ℤ pos (new_year_after n)
unfolding new_year_of new_year_after
new_year_is n =
    let same : suc n - 1 ≡ n = omega arith in
    rw (months_closed n, same) (postponed_after (is_leap_year (suc n)) (is_leap_year n) (parts_after n / 25_920)
    (parts_after n % 25_920))

pub first_new_year : new_year_after 0 ≡ 0
unfolding new_year_after allowed
first_new_year = refl

-- a year opens at most two days after its molad
opening_bounds : (leap after_leap : Bool) (d t : ℕ)
    → (d ≤ opening leap after_leap d t) × (opening leap after_leap d t ≤ d + 2)
unfolding allowed
opening_bounds leap after_leap d t = grind (arith, nat_tests)

pub new_year_bounds : (n : ℕ)
    → (parts_after n / 25_920 ≤ new_year_after n) × (new_year_after n ≤ parts_after n / 25_920 + 2)
unfolding new_year_after
new_year_bounds n = grind (arith, signed_arith, opening_bounds, parts_after)

-- a year and the one before are leap years by the part of a month that the months before the year have left
leap_by_part : (n : ℕ) → nat_le 12 ((235 * n + 1) % 19) ≡ is_leap_year (suc n)
leap_by_part n = grind (arith, nat_tests)

after_leap_by_part : (n : ℕ) → nat_lt ((235 * n + 1) % 19) 7 ≡ is_leap_year n
after_leap_by_part n = grind (arith, nat_tests)

-- what the code finds by one quotient is the new year
pub new_year_by : (year r : ℕ) → 1 ≤ year
    → r ≡ 7 * ((38_004 + 765_433 * ((235 * year - 234) / 19)) / 181_440)
    + days_from_monday (nat_le 12 ((235 * year - 234) % 19)) (nat_lt ((235 * year - 234) % 19) 7)
    ((38_004 + 765_433 * ((235 * year - 234) / 19)) % 181_440)
    → epoch +ℤ pos r ≡ new_year_of year
unfolding new_year_after
new_year_by zero r low e = absurd (omega arith)
new_year_by (suc n) r low e =
    let same : 235 * suc n - 234 ≡ 235 * n + 1 = omega arith in
    let parts : 38_004 + 765_433 * ((235 * n + 1) / 19) ≡ 32_400 + parts_after n = omega arith in
    let days = rw (same, leap_by_part n, after_leap_by_part n, parts) at e in
    rw (new_year_is n, days, opens_by_week (is_leap_year (suc n)) (is_leap_year n) (parts_after n)) refl
