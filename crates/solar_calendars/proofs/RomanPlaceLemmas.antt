-- Roman names by the days of the month, and the Roman date of a day.
use Rattle.std.proofs.Common.{◌≡◌, ◌↔◌, ℕ, zero, suc, ◌+◌, ◌-◌, ◌<◌, ◌≤◌, Bool, true, false, refl, ap, arith, ℤ, pos}
use Rattle.std.proofs.Common.{neg_ℤ, ◌+ℤ◌, ◌-ℤ◌, ◌≤ℤ◌, ◌<ℤ◌, inl, inr, negsuc, ◌==◌, ◌&&◌, ne_eqb, le-leb, IsTrue, sym}
use Rattle.std.proofs.Common.{subst, ◌∙◌}
use Rattle.std.proofs.Props.{props}
use Rattle.solar_calendars.specs.Roman.{day_of_ides, has_two_sixths, days_back, roman_day_number, IsRomanDate, count_of}
use Rattle.solar_calendars.specs.private.RomanPlaces.{kalends, month_before, year_of_month_before, kalends_back, HasPlace}
use Rattle.solar_calendars.specs.private.RomanPlaces.{place, prior_length, prior_ides, month_length, next_month}
use Rattle.solar_calendars.specs.private.RomanPlaces.{year_of_next_month, IsPlaced, year_before, name_within, name_after}
use Rattle.solar_calendars.specs.private.RomanPlaces.{RomanParts, parts_on, parts_of}
use Rattle.day_numbers.proofs.DateLemmas.{same_made}
use Rattle.solar_calendars.specs.declared.roman_date.RomanDate.{RomanDate}
use Rattle.solar_calendars.specs.Laws.{OneRomanDate}
use Rattle.day_numbers.proofs.RulesLemmas.{date_in_year, date_unique, next_year}
use Rattle.solar_calendars.proofs.Common.{by_lt_z, cases_eq, cases_lt, day_number_of, HasYear, Ides, is_julian_leap}
use Rattle.solar_calendars.proofs.Common.{IsBetween, IsDateOf, IsDayNumber, IsYear, julian_rules, Kalends, le-leb}
use Rattle.solar_calendars.proofs.Common.{lt-leb, nat_tests, Nones, RomanName, SecondSixth, signed_arith, without_zero}
use Rattle.solar_calendars.proofs.RomanMonthLemmas.{IsMonth, ides_small, ides_are, small_prior, valid_is, one_less}
use Rattle.solar_calendars.proofs.RomanMonthLemmas.{one_further, follows, day_in_month, principal_is}
use Rattle.solar_calendars.proofs.GregorianLemmas.{month_in}
use Rattle.solar_calendars.proofs.JulianLemmas.{closed, julian_start}

-- how far a day lies from the Kalends, which are counted 1
back_is : (two : Bool) (k : ℕ) → 1 ≤ k → days_back two (Kalends k) ≡ pos (kalends_back two k)
back_is false k h = omega (arith, signed_arith)
back_is true k h = grind (arith, signed_arith, cases_lt, lt-leb, le-leb)

counted : (two : Bool) (k : ℕ) → pos 0 ≤ℤ days_back two (Kalends k) → 1 ≤ k
counted two (suc k) h = omega arith
counted false zero h = absurd (omega (arith, signed_arith))
counted true zero h = absurd (omega (arith, signed_arith))

-- the month of a valid date is one that the calendar has
pub month_of : (y : ℤ) (m : ℕ) (name : RomanName) → IsRomanDate y m name → IsMonth y m
unfolding IsRomanDate
month_of y m name r = (r.0, r.1, r.2)

-- the valid dates are those whose name names a day
pub placed : (y : ℤ) (m : ℕ) (name : RomanName) → HasYear without_zero y → 1 ≤ m → m ≤ 12
    → IsRomanDate y m name ↔ HasPlace y m name
placed y m (Kalends k) h a b =
    let two = has_two_sixths y m in
    let valid = valid_is y m (Kalends k) (h, a, b) in
    let gap = ides_are y m h a b in
    let small = small_prior y m h a b in (
      λ r.
          let s = valid.0 r in
          let one : 1 ≤ k = counted two k (omega (arith, signed_arith, s.2)) in
          (one, omega (arith, signed_arith, s.1, gap, small, back_is two k one)),
      λ p. let back = back_is two k p.0 in
          valid.1 (
            λ e. absurd (cc),
            omega (arith, signed_arith, p, gap, small, back),
            omega (arith, signed_arith, back),
          ),
    )
placed y m SecondSixth h a b =
    let valid = valid_is y m SecondSixth (h, a, b) in
    let gap = ides_are y m h a b in
    let small = small_prior y m h a b in (
      λ r. (valid.0 r).0 refl,
      λ p. valid.1 (λ e. p, omega (arith, signed_arith, gap, small), omega (arith, signed_arith)),
    )
placed y m name h a b =
    let valid = valid_is y m name (h, a, b) in (
      λ r. let s = valid.0 r in (omega (arith, signed_arith, s), omega (arith, signed_arith, s, ides_small m)),
      λ p. valid.1 (λ e. absurd (cc), omega (arith, signed_arith, p, ides_small m), omega (arith, signed_arith, p)),
    )

-- and its day lies so far from the Kalends
pub number : (y : ℤ) (m : ℕ) (name : RomanName) → HasPlace y m name
    → roman_day_number y m name ≡ kalends y m +ℤ place (has_two_sixths y m) (day_of_ides m) name
number y m (Kalends k) p = omega (arith, signed_arith, back_is (has_two_sixths y m) k p.0)
number y m SecondSixth p = omega (arith, signed_arith)
number y m name p = omega (arith, signed_arith, ides_small m, p)

-- where there are two sixths, February has 29 days
pub sixths_length : (y : ℤ) (m : ℕ) → has_two_sixths y m ≡ true → (prior_length y m ≡ 29) × (prior_ides m ≡ 13)
sixths_length y m e = grind (arith, nat_tests)

pub other_day : (y : ℤ) (m k l : ℕ) → l ≡ prior_length y m → (has_two_sixths y m ≡ true → k < 6) → 1 ≤ k
    → pos l +ℤ pos 2 -ℤ pos k ≡ pos (prior_length y m + 1) -ℤ pos (kalends_back (has_two_sixths y m) k)
other_day y m k l r e h =
    let back : kalends_back (has_two_sixths y m) k ≡ k - 1 = grind (arith, nat_tests) in
    omega (arith, signed_arith, back, r)

-- a day of the month before has a place where it lies after its Ides
pub kalends_far : (y d : ℤ) (m k i : ℕ)
    → d ≡ pos (prior_length y m + 1) -ℤ pos (kalends_back (has_two_sixths y m) k)
    → i ≡ prior_ides m → d ≤ℤ pos i → ¬ (HasPlace y m (Kalends k))
kalends_far y d m k i e f far p = omega (arith, signed_arith, e, f, far, p.1)

pub kalends_near : (y d : ℤ) (m k i : ℕ) → 1 ≤ k
    → d ≡ pos (prior_length y m + 1) -ℤ pos (kalends_back (has_two_sixths y m) k)
    → i ≡ prior_ides m → pos i <ℤ d → HasPlace y m (Kalends k)
kalends_near y d m k i one e f near = (one, omega (arith, signed_arith, e, f, near))

pub kalends_place : (y d : ℤ) (m k l : ℕ)
    → d ≡ pos (prior_length y m + 1) -ℤ pos (kalends_back (has_two_sixths y m) k)
    → l ≡ prior_length y m → (d -ℤ pos 1) -ℤ pos l ≡ place (has_two_sixths y m) (day_of_ides m) (Kalends k)
kalends_place y d m k l e f = omega (arith, signed_arith, e, f)

-- no day of a name lies far from the Kalends
pub place_near : (y : ℤ) (m : ℕ) (name : RomanName) → HasYear without_zero y → 1 ≤ m → m ≤ 12 → HasPlace y m name
    → IsBetween (neg_ℤ (pos 50)) (pos 50) (place (has_two_sixths y m) (day_of_ides m) name)
place_near y m (Kalends k) h a b p = omega (arith, signed_arith, p, small_prior y m h a b)
place_near y m SecondSixth h a b p = omega (arith, signed_arith)
place_near y m name h a b p = omega (arith, signed_arith, p, ides_small m)

-- ---- each Julian date has a Roman name
-- a day's name to the Ides has the day's place, and no other name has it
first_placed : (two : Bool) (i l p : ℕ) → p + 13 ≤ l
    → IsPlaced two i l p (Kalends 1) × (place two i (Kalends 1) ≡ pos 1 -ℤ pos 1)
first_placed true i l p c = ((omega arith, omega arith), refl)
first_placed false i l p c = ((omega arith, omega arith), refl)

within_placed : (two : Bool) (i l p d : ℕ) → 13 ≤ i → i ≤ 15 → p + 13 ≤ l → 1 ≤ d → d ≤ i
    → IsPlaced two i l p (name_within i d) × (place two i (name_within i d) ≡ pos d -ℤ pos 1)
within_placed two i l p d a b c e f =
    grind (arith, signed_arith, cases_eq, first_placed, cases_lt, ne_eqb, lt-leb, le-leb)

-- the same after the Ides, by the length of the month
leap_placed : (i l p d : ℕ) → l ≡ 29 → p ≡ 13 → p < d → d ≤ l
    → IsPlaced true i l p (name_after true l d) × (place true i (name_after true l d) ≡ pos d -ℤ pos 1 -ℤ pos l)
leap_placed i l p d x y a b = grind (arith, signed_arith, cases_lt, cases_eq, lt-leb, ne_eqb, le-leb)

after_placed : (two : Bool) (i l p d : ℕ) → (two ≡ true → (l ≡ 29) × (p ≡ 13)) → p < d → d ≤ l
    → IsPlaced two i l p (name_after two l d) × (place two i (name_after two l d) ≡ pos d -ℤ pos 1 -ℤ pos l)
after_placed false i l p d t a b = ((omega arith, omega arith), omega (arith, signed_arith))
after_placed true i l p d t a b = leap_placed i l p d (t refl).0 (t refl).1 a b

-- the month after a month
year_after : (y : ℤ) → HasYear without_zero y
    → HasYear without_zero (next_year without_zero y) × (year_before (next_year without_zero y) ≡ y)
year_after (pos zero) h = absurd h
year_after (pos (suc n)) h = (tt, one_less n)
year_after (negsuc zero) h = (tt, refl)
year_after (negsuc (suc n)) h = (tt, one_further n)

next : (y : ℤ) (m : ℕ) → HasYear without_zero y → 1 ≤ m → m ≤ 12 → IsMonth (year_of_next_month y m) (next_month m)
    × (year_of_month_before (year_of_next_month y m) (next_month m) ≡ y) × (month_before (next_month m) ≡ m)
next y m h a b = grind (arith, signed_arith, cases_eq, year_after, ne_eqb)

-- the name of a Julian date is valid, and names its day
abbrev pub NamesDay : ℤ → RomanParts → Type 0
NamesDay n r = IsRomanDate r.year r.month r.name × (roman_day_number r.year r.month r.name ≡ n)

pub named_is : (y : ℤ) (m d : ℕ) → HasYear without_zero y → 1 ≤ m → m ≤ 12 → 1 ≤ d → d ≤ month_length y m
    → NamesDay (day_number_of julian_rules y m d) (parts_on y m d)
named_is y m d h a b one long =
    elim (cases_lt (day_of_ides m) d) [
      | inl more ↦
          let ny = year_of_next_month y m in
          let nm = next_month m in
          let x = next y m h a b in
          let f = follows ny nm x.0.0 x.0.1 x.0.2 in
          let length : prior_length ny nm ≡ month_length y m = rw (x.1, x.2) refl in
          let two : has_two_sixths ny nm ≡ ((m == 2) && is_julian_leap y) = rw (x.1, x.2) at f.leaps in
          let starts : kalends ny nm ≡ kalends y m +ℤ pos (month_length y m) = rw (x.1, x.2) at f.starts in
          let before : prior_ides nm ≡ day_of_ides m = rw x.2 refl in
          let name = name_after (has_two_sixths ny nm) (prior_length ny nm) d in
          let w = after_placed (has_two_sixths ny nm) (day_of_ides nm) (prior_length ny nm) (prior_ides nm) d
          (sixths_length ny nm) (omega (arith, before)) (omega arith) in
          rw (lt-leb d (day_of_ides m) more, ← two, ← length) (
            (placed ny nm name x.0.0 x.0.1 x.0.2).1 w.0,
            omega (arith, signed_arith, number ny nm name w.0, w.1, starts),
          )
      | inr less ↦
          let name = name_within (day_of_ides m) d in
          let w = within_placed (has_two_sixths y m) (day_of_ides m) (prior_length y m) (prior_ides m) d
          (ides_small m).0 (ides_small m).1 (small_prior y m h a b).1 one less in
          rw (le-leb d (day_of_ides m) less)
          ((placed y m name h a b).1 w.0, omega (arith, signed_arith, number y m name w.0, w.1))
    ]

-- ---- Roman dates with the same parts are one value
abbrev AreParts : RomanParts → Type 0
AreParts p = IsYear p.year × (p.month ≤ 99) × (count_of p.name ≤ 99)

pub roman_same : (d e : RomanDate) → parts_of d ≡ parts_of e → d ≡ e
roman_same d e p =
    same_made AreParts
    (λ p h. record { year = p.year; month = p.month; name = p.name; year_in = h.0; month_in = h.1; count_in = h.2 })
    (λ p. hlevel props) (parts_of d) (parts_of e) p (d.year_in, d.month_in, d.count_in)
    (e.year_in, e.month_in, e.count_in)

-- a name by its principal day in a month and the days back from there
same_name : (two : Bool) (m : ℕ) (a b : RomanName) → (a ≡ SecondSixth → IsTrue two) → (b ≡ SecondSixth → IsTrue two)
    → day_in_month m a ≡ day_in_month m b → days_back two a ≡ days_back two b → a ≡ b
same_name two m (Kalends k) (Kalends j) s t e f = ap Kalends (grind (arith, signed_arith, nat_tests))
same_name two m (Nones k) (Nones j) s t e f = ap Nones (omega (arith, signed_arith, f))
same_name two m (Ides k) (Ides j) s t e f = ap Ides (omega (arith, signed_arith, f))
same_name two m SecondSixth SecondSixth s t e f = refl
same_name true m (Kalends k) SecondSixth s t e f = absurd (grind (arith, signed_arith, nat_tests))
same_name true m SecondSixth (Kalends j) s t e f = absurd (grind (arith, signed_arith, nat_tests))
same_name false m a SecondSixth s t e f = let no = t refl in cc
same_name false m SecondSixth b s t e f = let no = s refl in cc
same_name two m a b s t e f = absurd (omega (arith, ides_small m, e))

-- two days p and q are one where each is the first principal day from day n on
same_principal : (n p q : ℤ) → (p <ℤ n → p <ℤ p) → (p <ℤ q → p <ℤ n) → (q <ℤ p → q <ℤ n) → (q <ℤ n → q <ℤ q) → p ≡ q
same_principal n p q a b c d =
    by_lt_z p q (λ less. absurd (omega (arith, signed_arith, a (b less))))
    (λ most. by_lt_z q p (λ less. absurd (omega (arith, signed_arith, d (c less))))
    (λ least. omega (arith, signed_arith)))

-- two valid Roman dates of one day are one date: each has the first principal day from that day on
pub one_roman_date : OneRomanDate
unfolding IsRomanDate
one_roman_date d e h g same =
    let p = principal_is d.year d.month d.name (h.0, h.1, h.2) in
    let q = principal_is e.year e.month e.name (g.0, g.1, g.2) in
    let day = same_principal _ _ _ (h.4 d.year d.month d.name h.0 h.1 h.2).0
    (rw (← same) at ((g.4 d.year d.month d.name h.0 h.1 h.2).1)) (h.4 e.year e.month e.name g.0 g.1 g.2).1
    (rw (← same) at ((g.4 e.year e.month e.name g.0 g.1 g.2).0)) in
    let dates = date_unique julian_rules d.year e.year d.month e.month (day_in_month d.month d.name)
    (day_in_month e.month e.name) p.0 q.0 (sym p.1 ∙ day ∙ q.1) in
    let back : days_back (has_two_sixths d.year d.month) d.name ≡ days_back (has_two_sixths e.year e.month) e.name =
    omega (arith, signed_arith, same, day) in
    let name : d.name ≡ e.name =
    same_name (has_two_sixths e.year e.month) e.month d.name e.name (rw (dates.0, dates.1) at h.3) g.3
    (rw dates.1 at dates.2) (rw (dates.0, dates.1) at back) in
    roman_same d e (rw (dates.0, dates.1, name) refl)

-- ---- the date on a day
-- a year that holds a day in range
closed_near : (y : ℤ) → closed y ≤ℤ pos 3_652_059 → y ≤ℤ pos 99_998
closed_near (pos n) h = omega (arith, signed_arith)
closed_near (negsuc n) h = omega (arith, signed_arith)

pub year_near : (y n : ℤ) (m d : ℕ) → IsDateOf julian_rules y m d → day_number_of julian_rules y m d ≡ n
    → IsDayNumber n → y ≤ℤ pos 99_998
year_near y n m d h e r =
    closed_near y (rw (julian_start y h.0) (omega (arith, signed_arith, (date_in_year julian_rules y m d h).0, e, r)))

pub names_day : (r : RomanDate) (y n : ℤ) (m d : ℕ) → parts_of r ≡ parts_on y m d → IsDateOf julian_rules y m d
    → day_number_of julian_rules y m d ≡ n
    → IsRomanDate r.year r.month r.name × (roman_day_number r.year r.month r.name ≡ n)
names_day r y n m d e h k =
    let months = month_in (is_julian_leap y) m d h.1 h.2 in
    let v = named_is y m d h.0 months.0 months.1 h.1 h.2 in
    subst (NamesDay n) (sym e) (v.0, v.1 ∙ k)

pub only_roman : (r : RomanDate) (y n : ℤ) (m d : ℕ) → parts_of r ≡ parts_on y m d → IsDateOf julian_rules y m d
    → day_number_of julian_rules y m d ≡ n
    → (o : RomanDate) → IsRomanDate o.year o.month o.name → roman_day_number o.year o.month o.name ≡ n → r ≡ o
only_roman r y n m d e h k o v f =
    let named = names_day r y n m d e h k in one_roman_date r o named.0 v (named.1 ∙ sym f)
