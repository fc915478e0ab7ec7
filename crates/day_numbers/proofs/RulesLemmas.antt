-- What follows from a calendar's rules, for every calendar.
use Rattle.std.proofs.Common.{◌≡◌, ℕ, zero, suc, ◌+◌, ◌-◌, ◌≤◌, List, [], ◌∷◌, refl, sym}
use Rattle.std.proofs.Common.{subst, ◌∙◌, arith, ℤ, pos, negsuc, ◌+ℤ◌, ◌-ℤ◌, ◌<ℤ◌, ◌≤ℤ◌, neg_ℤ, unsigned_abs}
use Rattle.std.proofs.lemmas.Int.{by_lt_z}
use Rattle.std.proofs.lemmas.Bool.Decides.{nat_tests}
use Rattle.day_numbers.specs.Rules.{Years, from_one, with_zero, without_zero, Rules, HasYear, total_days, days_of_month}
use Rattle.day_numbers.specs.Rules.{days_before_month, days_of_years, year_before, start_of_year, year_length}
use Rattle.day_numbers.specs.Rules.{year_start, IsDateOf, day_number_of, HasDayOf, first_day_by}
use Rattle.day_numbers.specs.Days.{IsSinceFirstDay}
use Rattle.day_numbers.specs.declared.rules.Month.{Month}
use Rattle.day_numbers.proofs.SignedArithmeticLemmas.{signed_arith}

-- the year after a year
abbrev pub next_year : Years → ℤ → ℤ
next_year years (pos n) = pos (suc n)
next_year with_zero (negsuc zero) = pos 0
next_year without_zero (negsuc zero) = pos 1
next_year from_one (negsuc zero) = pos 1
next_year years (negsuc (suc n)) = negsuc n

pub years_suc : (f : ℤ → ℕ) (n : ℕ) → days_of_years f (suc n) ≡ days_of_years f n + f (pos (suc n))
unfolding days_of_years
years_suc f n = refl

pub years_zero : (f : ℤ → ℕ) → days_of_years f 0 ≡ 0
unfolding days_of_years
years_zero f = refl

pub start_one : (s : Years) (e : ℤ) (f : ℤ → ℕ) → start_of_year s e f (pos 1) ≡ e
unfolding start_of_year
start_one s e f = omega (arith, signed_arith, years_zero f)

-- the lengths of the years before year 1, the nearest first
abbrev lengths_before : Years → (ℤ → ℕ) → ℤ → ℕ
lengths_before s f k = f (year_before s k)

-- the start of the year that lies n years before year 1
start_before : (s : Years) (e : ℤ) (f : ℤ → ℕ) (y : ℤ) (n : ℕ) → y <ℤ pos 1 → unsigned_abs (year_before s y) ≡ n
    → start_of_year s e f y ≡ e -ℤ pos (days_of_years (lengths_before s f) n)
unfolding start_of_year
start_before s e f (pos zero) n lt h = rw h refl
start_before s e f (pos (suc k)) n lt h = absurd (omega (arith, signed_arith))
start_before s e f (negsuc k) n lt h = rw h refl

-- the year z that lies n years before year 1, and the year y before it
start_step : (s : Years) (e : ℤ) (f : ℤ → ℕ) (y z : ℤ) (n : ℕ) → y <ℤ pos 1 → z <ℤ pos 1
    → unsigned_abs (year_before s z) ≡ n → unsigned_abs (year_before s y) ≡ suc n → year_before s (pos (suc n)) ≡ y
    → start_of_year s e f z ≡ start_of_year s e f y +ℤ pos (f y)
start_step s e f y z n a b g h k =
    let more : days_of_years (lengths_before s f) (suc n) ≡ days_of_years (lengths_before s f) n + f y =
    rw (← k) (years_suc (lengths_before s f) n) in
    omega (arith, signed_arith, more, start_before s e f z n b g, start_before s e f y (suc n) a h)

-- the same of year 1, and the year y before it
start_last : (s : Years) (e : ℤ) (f : ℤ → ℕ) (y : ℤ) → y <ℤ pos 1 → unsigned_abs (year_before s y) ≡ 1
    → year_before s (pos 1) ≡ y → start_of_year s e f (pos 1) ≡ start_of_year s e f y +ℤ pos (f y)
start_last s e f y a h k = grind (arith, signed_arith, lengths_before, years_suc, years_zero, start_before, start_one)

-- each year begins after the days of the one before
pub start_next : (s : Years) (e : ℤ) (f : ℤ → ℕ) (y : ℤ) → HasYear s y
    → start_of_year s e f (next_year s y) ≡ start_of_year s e f y +ℤ pos (f y)
unfolding start_of_year
start_next s e f (pos (suc n)) h = omega (arith, signed_arith, years_suc f n)
start_next with_zero e f (pos zero) h = start_last with_zero e f (pos 0) (omega (arith, signed_arith)) refl refl
start_next with_zero e f (negsuc zero) h =
    start_step with_zero e f (negsuc 0) (pos 0) 1 (omega (arith, signed_arith)) (omega (arith, signed_arith)) refl refl
    refl
start_next with_zero e f (negsuc (suc n)) h =
    start_step with_zero e f (negsuc (suc n)) (negsuc n) (suc (suc n)) (omega (arith, signed_arith))
    (omega (arith, signed_arith)) (omega (arith, signed_arith)) (omega (arith, signed_arith))
    (omega (arith, signed_arith))
start_next without_zero e f (negsuc zero) h =
    start_last without_zero e f (negsuc 0) (omega (arith, signed_arith)) refl refl
start_next without_zero e f (negsuc (suc n)) h =
    start_step without_zero e f (negsuc (suc n)) (negsuc n) (suc n) (omega (arith, signed_arith))
    (omega (arith, signed_arith)) refl refl refl
start_next s e f y h = absurd h

-- from a year to the one before it
back_one : (a b c d : ℤ) (n : ℕ) → c ≡ a +ℤ pos n → d ≡ b +ℤ pos n → c ≡ d → a ≡ b
back_one a b c d n p q e = omega (arith, signed_arith)

-- a closed formula that is right at year 1 and, from some year on, grows by each year's length gives the first days of
-- the years from there on
module _ (e : ℤ) (f : ℤ → ℕ) (g : ℤ → ℤ) (low : ℕ) (one : g (pos 1) ≡ e) where
  abbrev Grows : Years → Type 0
  Grows s = (y : ℤ) → HasYear s y → negsuc low ≤ℤ y → g (next_year s y) ≡ g y +ℤ pos (f y)

  start_later : (s : Years) → Grows s → (n : ℕ) → g (pos (suc n)) ≡ start_of_year s e f (pos (suc n))
  start_later s more zero = one ∙ sym (start_one s e f)
  start_later s more (suc n) =
      let step = more (pos (suc n)) tt (omega (arith, signed_arith)) in
      cc (step, start_later s more n, start_next s e f (pos (suc n)) tt)

  start_earlier : (s : Years) → Grows s → (y : ℤ) → HasYear s y → negsuc low ≤ℤ y
      → g (next_year s y) ≡ start_of_year s e f (next_year s y) → g y ≡ start_of_year s e f y
  start_earlier s more y h le same = back_one _ _ _ _ (f y) (more y h le) (start_next s e f y h) same

  start_from : (s : Years) → Grows s → (y : ℤ) → HasYear s y → negsuc low ≤ℤ y → g y ≡ start_of_year s e f y
  start_from s more (pos (suc n)) h le = start_later s more n
  start_from with_zero more (pos zero) h le = start_earlier with_zero more (pos 0) tt le (start_later with_zero more 0)
  start_from with_zero more (negsuc zero) h le =
      start_earlier with_zero more (negsuc 0) tt le (start_earlier with_zero more (pos 0) tt
      (omega (arith, signed_arith)) (start_later with_zero more 0))
  start_from without_zero more (negsuc zero) h le =
      start_earlier without_zero more (negsuc 0) tt le (start_later without_zero more 0)
  start_from with_zero more (negsuc (suc n)) h le =
      start_earlier with_zero more (negsuc (suc n)) tt le
      (start_from with_zero more (negsuc n) tt (omega (arith, signed_arith)))
  start_from without_zero more (negsuc (suc n)) h le =
      start_earlier without_zero more (negsuc (suc n)) tt le
      (start_from without_zero more (negsuc n) tt (omega (arith, signed_arith)))
  start_from s more y h le = absurd h

-- no year lies before the one that many years before year 0
lowest : (y : ℤ) → negsuc (unsigned_abs y) ≤ℤ y
lowest (pos n) = omega (arith, signed_arith)
lowest (negsuc n) = omega (arith, signed_arith)

-- and so the first day of each year, where it grows so everywhere
pub start_is : (s : Years) (e : ℤ) (f : ℤ → ℕ) (g : ℤ → ℤ) → g (pos 1) ≡ e
    → ((y : ℤ) → HasYear s y → g (next_year s y) ≡ g y +ℤ pos (f y)) → (y : ℤ) → HasYear s y
    → g y ≡ start_of_year s e f y
start_is s e f g one more y h = start_from e f g (unsigned_abs y) one s (λ z has le. more z has) y h (lowest y)

-- in a calendar with a year 0 the next year is the year plus one
pub next_is : (y : ℤ) → next_year with_zero y ≡ y +ℤ pos 1
next_is (pos n) = omega (arith, signed_arith)
next_is (negsuc zero) = refl
next_is (negsuc (suc n)) = omega (arith, signed_arith)

pub any_year : (y : ℤ) → HasYear with_zero y
any_year (pos zero) = tt
any_year y = tt

pub start_is_from : (e : ℤ) (f : ℤ → ℕ) (g : ℤ → ℤ) (low : ℕ) → g (pos 1) ≡ e
    → ((y : ℤ) → negsuc low ≤ℤ y → g (y +ℤ pos 1) ≡ g y +ℤ pos (f y)) → (y : ℤ) → negsuc low ≤ℤ y
    → g y ≡ start_of_year with_zero e f y
start_is_from e f g low one more y le =
    start_from e f g low one with_zero (λ z has le. rw (next_is z) (more z le)) y (any_year y) le

-- years begin in their order
years_mono : (f : ℤ → ℕ) (n k : ℕ) → days_of_years f n ≤ days_of_years f (k + n)
years_mono f n zero = let same : 0 + n ≡ n = omega arith in rw same (omega arith)
years_mono f n (suc k) = grind (arith, signed_arith, years_mono f n k, years_suc f (k + n))

years_le : (f : ℤ → ℕ) (m n : ℕ) → m ≤ n → days_of_years f m ≤ days_of_years f n
years_le f m n h = let same : n - m + m ≡ n = omega arith in rw same at (years_mono f m (n - m))

abs_le : (a b : ℤ) → pos 0 ≤ℤ a → a ≤ℤ b → unsigned_abs a ≤ unsigned_abs b
abs_le (negsuc n) b h le = absurd (omega (arith, signed_arith))
abs_le (pos n) (negsuc k) h le = absurd (omega (arith, signed_arith))
abs_le (pos n) (pos k) h le = omega (arith, signed_arith)

back_le : (s : Years) (y z : ℤ) → y ≤ℤ z → z <ℤ pos 1
    → unsigned_abs (year_before s z) ≤ unsigned_abs (year_before s y)
back_le with_zero y z h lt = grind (arith, signed_arith, abs_le)
back_le s y z h lt = abs_le (neg_ℤ z) (neg_ℤ y) (omega (arith, signed_arith)) (omega (arith, signed_arith))

pub start_mono : (s : Years) (e : ℤ) (f : ℤ → ℕ) (y z : ℤ) → y ≤ℤ z → start_of_year s e f y ≤ℤ start_of_year s e f z
unfolding start_of_year
start_mono s e f (pos (suc n)) (pos (suc m)) le = grind (arith, signed_arith, years_le)
start_mono s e f (pos (suc n)) (pos zero) le = absurd (omega (arith, signed_arith))
start_mono s e f (pos (suc n)) (negsuc m) le = absurd (omega (arith, signed_arith))
start_mono s e f (pos zero) (pos (suc m)) le = omega (arith, signed_arith)
start_mono s e f (negsuc n) (pos (suc m)) le = omega (arith, signed_arith)
start_mono s e f y z le = grind (arith, signed_arith, start_before, years_le, lengths_before, back_le)

next_le : (s : Years) (y z : ℤ) → HasYear s z → y <ℤ z → next_year s y ≤ℤ z
next_le s (pos n) z h lt = omega (arith, signed_arith)
next_le s (negsuc (suc n)) z h lt = omega (arith, signed_arith)
next_le with_zero (negsuc zero) z h lt = omega (arith, signed_arith)
next_le s (negsuc zero) (pos (suc n)) h lt = omega (arith, signed_arith)
next_le without_zero (negsuc zero) (negsuc n) h lt = absurd (omega (arith, signed_arith))
next_le s y z h lt = absurd h

-- a later year begins after all days of an earlier one
pub begins_after : (s : Years) (e : ℤ) (f : ℤ → ℕ) (y z : ℤ) → HasYear s y → HasYear s z → y <ℤ z
    → (start_of_year s e f y +ℤ pos (f y)) ≤ℤ start_of_year s e f z
begins_after s e f y z h k lt = rw (← start_next s e f y h) (start_mono s e f (next_year s y) z (next_le s y z k lt))

-- a day lies in one year
pub year_unique : (s : Years) (e : ℤ) (f : ℤ → ℕ) (y z n : ℤ) → HasYear s y → HasYear s z → start_of_year s e f y ≤ℤ n
    → n <ℤ (start_of_year s e f y +ℤ pos (f y)) → start_of_year s e f z ≤ℤ n → n <ℤ (start_of_year s e f z +ℤ pos (f z))
    → y ≡ z
year_unique s e f y z n h k a b c d =
    by_lt_z y z (λ lt. absurd (omega (arith, signed_arith, begins_after s e f y z h k lt)))
    (λ ge. by_lt_z z y (λ gt. absurd (omega (arith, signed_arith, begins_after s e f z y k h gt)))
    (λ le. omega (arith, signed_arith)))

-- the months
pub month_in_total : (ms : List Month) (k : ℕ) → days_before_month ms k + days_of_month ms k ≤ total_days ms
month_in_total [] k = omega arith
month_in_total (m ∷ ms) k = grind (arith, nat_tests, month_in_total ms k)

-- a place among the days of a year has one month
pub month_unique : (ms : List Month) (k j a b : ℕ) → 1 ≤ a → a ≤ days_of_month ms k → 1 ≤ b → b ≤ days_of_month ms j
    → days_before_month ms k + a ≡ days_before_month ms j + b → (k ≡ j) × (a ≡ b)
month_unique [] k j a b pa qa pb qb e = absurd (omega arith)
month_unique (m ∷ ms) k j a b pa qa pb qb e = grind (arith, nat_tests, month_unique ms k j a b)

-- the day number of a date lies among the days of its year
pub date_in_year : (r : Rules) (y : ℤ) (m d : ℕ) → IsDateOf r y m d
    → (year_start r y ≤ℤ day_number_of r y m d) × (day_number_of r y m d <ℤ (year_start r y +ℤ pos (year_length r y)))
date_in_year r y m d h = omega (arith, signed_arith, h.1, h.2, month_in_total (r.months y) m)

-- two dates with one day number are one date
pub date_unique : (r : Rules) (y z : ℤ) (m k d j : ℕ) → IsDateOf r y m d → IsDateOf r z k j
    → day_number_of r y m d ≡ day_number_of r z k j → (y ≡ z) × (m ≡ k) × (d ≡ j)
date_unique r y z m k d j h g e =
    let p = date_in_year r y m d h in
    let q = date_in_year r z k j g in
    let same : y ≡ z =
    year_unique r.years r.epoch (year_length r) y z (day_number_of r y m d) h.0 g.0 p.0 p.1 (rw e q.0) (rw e q.1) in
    let g' : IsDateOf r y k j = rw same g in
    let e' : day_number_of r y m d ≡ day_number_of r y k j =
    subst (λ w. day_number_of r y m d ≡ day_number_of r w k j) (sym same) e in
    let part = month_unique (r.months y) m k d j h.1 h.2 g'.1 g'.2 (omega (arith, signed_arith, e')) in
    (same, part.0, part.1)

has_day_from : (s : Years) (e : ℤ) (f : ℤ → ℕ) (y n : ℤ) → HasYear s y → start_of_year s e f y ≤ℤ n
    → IsSinceFirstDay (first_day_by s e) n
has_day_from from_one e f (pos (suc k)) n h le = grind (
  arith,
  signed_arith,
  start_one from_one e f,
  start_mono from_one e f (pos 1) (pos (suc k)) (omega (arith, signed_arith)),
)
has_day_from from_one e f y n h le = absurd h
has_day_from s e f y n h le = tt

-- each date's day is one that the calendar has
pub has_day_of : (r : Rules) (y : ℤ) (m d : ℕ) → IsDateOf r y m d → HasDayOf r (day_number_of r y m d)
has_day_of r y m d h =
    has_day_from r.years r.epoch (year_length r) y (day_number_of r y m d) h.0 (date_in_year r y m d h).0

-- a date from its place in the year
pub date_at_place : (r : Rules) (y n s : ℤ) (m d place : ℕ) (ms : List Month) → ms ≡ r.months y → HasYear r.years y
    → 1 ≤ d → d ≤ days_of_month ms m → days_before_month ms m + d ≡ place + 1 → s ≡ year_start r y → n ≡ s +ℤ pos place
    → IsDateOf r y m d × (day_number_of r y m d ≡ n)
date_at_place r y n s m d place ms e h a b c f k = grind (arith, signed_arith)

-- and a date's number from the parts that the code adds up
pub number_from_parts : (r : Rules) (y s : ℤ) (m d before : ℕ) (ms : List Month) → ms ≡ r.months y
    → before ≡ days_before_month ms m → s ≡ year_start r y → (s +ℤ pos before) +ℤ pos d -ℤ pos 1 ≡ day_number_of r y m d
number_from_parts r y s m d before ms e f k = rw (f, e, k) refl

-- in a calendar from year 1 on, the sum of epoch and days before is the first day of the year
pub sum_is_start : (e : ℤ) (f : ℤ → ℕ) (y z b : ℤ) (n s : ℕ) → s ≡ days_of_years f n → b ≡ e → y ≡ pos (suc n)
    → z ≡ b +ℤ pos s → z ≡ start_of_year from_one e f y
unfolding start_of_year
sum_is_start e f y z b n s p q r t = rw r (omega (arith, signed_arith, p, q, t))

-- and a date's number is that of its day, by the days of the years before and its place in the year
pub day_from_one : (e b n : ℤ) (months : ℤ → List Month) (years days place m d : ℕ)
    → days_of_years (λ y. total_days (months y)) years + place ≡ days
    → days_before_month (months (pos (years + 1))) m + d ≡ place + 1 → b ≡ e → n ≡ b +ℤ pos days
    → day_number_of (record { epoch = e; years = from_one; months = months }) (pos (suc years)) m d ≡ n
unfolding start_of_year
day_from_one e b n months years days place m d sum placed p q =
    let next : years + 1 ≡ suc years = omega arith in
    let before = rw next at placed in
    omega (arith, signed_arith, before, p, q)

pub year_from_one : (y : ℤ) → HasYear from_one y → pos 1 ≤ℤ y
year_from_one (pos (suc n)) h = omega (arith, signed_arith)
year_from_one y h = absurd h
