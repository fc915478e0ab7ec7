-- What is read is what was written.
use Rattle.std.proofs.Common.{◌≡◌, inl, inr, ℕ, suc, ◌+◌, ◌<◌, ◌≤◌, Bool, true, false, not, ◌&&◌, ◌||◌}
use Rattle.std.proofs.Common.{cond, refl, sym, ap, arith, List, [], ◌∷◌, ◌++◌, Option, Some, None, is_some, ◌∙◌, subst}
use Rattle.std.proofs.Common.{nat_le, nat_lt}
use Rattle.std.specs.List.{filter, list_all, All}
use Rattle.std.proofs.lemmas.Bool.{true≢false}
use Rattle.std.proofs.lemmas.Bool.Decides.{nat_tests}
use Rattle.std.proofs.lemmas.List.Elements.{All-cons, All-contains}
use Rattle.std.proofs.lemmas.List.Sums.{AllPass-from_list_all}
use Rattle.std.proofs.lemmas.List.Sorted.{All-permutation, IsPermutation-sym}
use Rattle.day_numbers.specs.declared.day.Weekday.{Weekday as NamedWeekday}
use Rattle.date_texts.specs.declared.calendar.Calendar.{Calendar}
use Rattle.date_texts.specs.declared.calendar.Calendar.TheVariants.{Gregorian, Julian, French, Republican}
use Rattle.date_texts.specs.Calendars.{Reckoning, by_rules, reckoning}
use Rattle.written_dates.specs.declared.calendars.Form.{Form}
use Rattle.written_dates.specs.declared.calendars.Form.TheVariants as forms
use Rattle.written_dates.specs.declared.items.Number.{Number as Numeral}
use Rattle.written_dates.specs.declared.items.Item.{Item}
use Rattle.written_dates.specs.declared.items.Item.TheVariants.{Number, Month, Mark, Weekday, DecadeDay}
use Rattle.written_dates.specs.declared.meanings.Era.{Era}
use Rattle.written_dates.specs.declared.meanings.Era.TheVariants as eras
use Rattle.written_dates.specs.declared.meanings.Name.{Name}
use Rattle.written_dates.specs.declared.rules.InYear.{InYear}
use Rattle.written_dates.specs.declared.rules.InYear.TheVariants as days
use Rattle.written_dates.specs.declared.rules.Order.{Order}
use Rattle.written_dates.specs.declared.rules.Reading.{Reading}
use Rattle.written_dates.specs.declared.rules.Reading.TheVariants.{Civil, Roman}
use Rattle.written_dates.specs.declared.written.Answer.{Answer}
use Rattle.written_dates.specs.declared.written.Answer.TheVariants.{Stays, NoSuchYear, OtherWeekday, Refused, Date, RomanDate}
use Rattle.written_dates.specs.declared.written.Choice.{Choice}
use Rattle.written_dates.specs.declared.written.Short.{Short}
use Rattle.written_dates.specs.declared.written.Short.TheVariants.{Refuse, Keep, Add}
use Rattle.written_dates.specs.Calendars.{form}
use Rattle.written_dates.specs.Tokens.{Piece, tokens}
use Rattle.written_dates.specs.declared.meanings.Mark.{Mark as NamedMark}
use Rattle.written_dates.specs.Items.{is_long, is_of_calendar}
use Rattle.written_dates.specs.Sums.{found_items}
use Rattle.written_dates.specs.Signs.{bare, begins_with_dash, has_bar_between, has_minus, has_mixed_signs, has_other, three_runs}
use Rattle.written_dates.specs.Signs.{runs_behind_minus}
use Rattle.written_dates.specs.Rules.{roman_reading, or_reading, civil, month_between, is_year_first, is_month_between}
use Rattle.written_dates.specs.Weekdays.{is_on, is_on_by, IsOn, IsOnBy, numbered_weekday}
use Rattle.written_dates.specs.Written.{agrees, answer, answer_by, church_of, counted, counted_by, date_by_rule, date_in, date_of}
use Rattle.written_dates.specs.Written.{lacks_church, lacks_month}
use Rattle.written_dates.specs.Written.{date_or_stays, has_year}
use Rattle.written_dates.specs.Written.{if_agreed, in_month, is_half_year, items_answer, month_and_day, reading_by, short_rule, written_form}
use Rattle.written_dates.specs.ReadLaws.{if_on, WeekdaysOnlyTest, DecadeDaysAgree, MixedSignsStay, DaysToDaysStay}
use Rattle.written_dates.specs.ReadLaws.{IsRead, WeekdaysAgree, UsesAll, AreYearMonthDay, IsMonthItem, IsDayItem}
use Rattle.written_dates.specs.ReadLaws.{NothingIsLeftOver, LongNumbersAreYears, MonthsAreMonths, YearWordsNameYears}
use Rattle.written_dates.specs.ReadLaws.{MinusesAreNotRead, MinusesStay, YearsOfTheRepublic, is_no_weekday}
use Rattle.written_dates.specs.ReadLaws.{is_numeral, IsOfChurch, IsRepublican, NamedYearsAreWhole, DaysStandBehindMonths, RomanNumbersAreMonths}
use Rattle.written_dates.proofs.DayLemmas.{on_parts}
use Rattle.written_dates.proofs.LawLemmas.{long_kept}
use Rattle.written_dates.proofs.TimeLemmas.{minus_whole}
use Rattle.written_dates.proofs.UseLemmas.{Uses, civil_uses}

-- ---- a date that is read is what the items say
pub date_by : (b : Bool) (x : Answer) (y m d : ℕ) → cond b Stays x ≡ Date y m d → x ≡ Date y m d
date_by true x y m d e = absurd (cc)
date_by false x y m d e = e

found_by : (o : Option (List Item)) (say : List Item → Answer) (found : List Item) (y m d : ℕ) → o ≡ Some found
    → answer_by o say ≡ Date y m d → say found ≡ Date y m d
found_by None say found y m d e h = absurd (cc)
found_by (Some xs) say found y m d e h =
    let same : xs ≡ found = cc in subst (λ (zs : List Item). say zs ≡ Date y m d) same h

some_by : (o : Option (List Item)) (say : List Item → Answer) (y m d : ℕ) → answer_by o say ≡ Date y m d
    → (found : List Item) × (say found ≡ Date y m d)
some_by None say y m d h = absurd (cc)
some_by (Some xs) say y m d h = (xs, h)

pub says : (choice : Choice) (calendar : Calendar) (names : List Name) (text : List ℕ) (found : List Item) (y m d : ℕ)
    → IsRead choice calendar names text found y m d
    → items_answer choice calendar (tokens 0 text) found ≡ Date y m d
unfolding answer
says choice calendar names text found y m d r =
    found_by (found_items calendar names text)
    (items_answer choice calendar (tokens 0 text)) found y m d r.has (date_by _ _ y m d r.says)

said : (choice : Choice) (calendar : Calendar) (names : List Name) (text : List ℕ) (y m d : ℕ)
    → answer choice calendar names text ≡ Date y m d
    → (found : List Item) × (items_answer choice calendar (tokens 0 text) found ≡ Date y m d)
unfolding answer
said choice calendar names text y m d e =
    some_by (found_items calendar names text)
    (items_answer choice calendar (tokens 0 text)) y m d (date_by _ _ y m d e)

-- ---- the weekdays among the items are those of the date
agreed_if : (b : Bool) (calendar : Calendar) (found : List Item) (y m d y' m' d' : ℕ)
    → list_all (agrees calendar y' m' d') found ≡ b → cond b (Date y' m' d') (OtherWeekday y' m' d') ≡ Date y m d
    → (Date y' m' d' ≡ Date y m d) × (list_all (agrees calendar y m d) found ≡ true)
agreed_if false calendar found y m d y' m' d' all e = absurd (cc)
agreed_if true calendar found y m d y' m' d' all e =
    let a : y' ≡ y = cc in let b : m' ≡ m = cc in let c : d' ≡ d = cc in
    (e, rw (a, b, c) at all)

pub agreed_by : (calendar : Calendar) (found : List Item) (a : Answer) (y m d : ℕ) → if_agreed calendar found a ≡ Date y m d
    → (a ≡ Date y m d) × (list_all (agrees calendar y m d) found ≡ true)
agreed_by calendar found (Date y' m' d') y m d e =
    agreed_if (list_all (agrees calendar y' m' d') found) calendar found y m d y' m' d' refl e
agreed_by calendar found Stays y m d e = absurd (cc)
agreed_by calendar found NoSuchYear y m d e = absurd (cc)
agreed_by calendar found (OtherWeekday _ _ _) y m d e = absurd (cc)
agreed_by calendar found Refused y m d e = absurd (cc)
agreed_by calendar found (RomanDate _ _ _ _) y m d e = absurd (cc)

on_fact_by : (k : Reckoning) (y m d : ℕ) (w : NamedWeekday) → is_on_by k y m d w ≡ true → IsOnBy k y m d w
on_fact_by (by_rules r) y m d w e = let all = (on_parts r y m d w e).1 in (all.0, all.2)
on_fact_by _ y m d w e = absurd (cc)

on_fact : (calendar : Calendar) (y m d : ℕ) (w : NamedWeekday) → is_on calendar y m d w ≡ true → IsOn calendar y m d w
unfolding is_on
on_fact calendar y m d w e = on_fact_by (reckoning calendar) y m d w e

pub weekdays_agree : WeekdaysAgree
weekdays_agree choice calendar names text found y m d w r has =
    let all = (agreed_by calendar found _ y m d (says choice calendar names text found y m d r)).1 in
    on_fact calendar y m d w
    (All-contains (λ (i : Item). agrees calendar y m d i ≡ true) found (Weekday w)
    (AllPass-from_list_all (agrees calendar y m d) found all) has)

pub decade_days_agree : DecadeDaysAgree
decade_days_agree choice calendar names text found y m d n r has =
    let all = (agreed_by calendar found _ y m d (says choice calendar names text found y m d r)).1 in
    All-contains (λ (i : Item). agrees calendar y m d i ≡ true) found (DecadeDay n)
    (AllPass-from_list_all (agrees calendar y m d) found all) has

-- ---- a weekday beside a date is a test, and no more
-- what is said, alone and with a weekday in front or behind
abbrev SaysAlike : Choice → Calendar → List Piece → List Item → Reading → NamedWeekday → Type 0
SaysAlike choice calendar pieces xs reading w =
    (items_answer choice calendar pieces xs ≡ date_of choice calendar (Some reading))
    × (items_answer choice calendar pieces (Weekday w ∷ xs) ≡ if_on calendar w (date_of choice calendar (Some reading)))
    × (items_answer choice calendar pieces (xs ++ Weekday w ∷ [])
    ≡ if_on calendar w (date_of choice calendar (Some reading)))

-- three items that agree with every date
abbrev AgreeAlways : Item → Type 0
AgreeAlways x = (calendar : Calendar) (y m d : ℕ) → agrees calendar y m d x ≡ true

kept_agreed : (calendar : Calendar) (x : Answer) (a b c : Item) → AgreeAlways a → AgreeAlways b → AgreeAlways c
    → if_agreed calendar (a ∷ b ∷ c ∷ []) x ≡ x
kept_agreed calendar (Date y m d) a b c p q r = rw (p calendar y m d, q calendar y m d, r calendar y m d) refl
kept_agreed calendar Stays a b c p q r = refl
kept_agreed calendar NoSuchYear a b c p q r = refl
kept_agreed calendar (OtherWeekday _ _ _) a b c p q r = refl
kept_agreed calendar Refused a b c p q r = refl
kept_agreed calendar (RomanDate _ _ _ _) a b c p q r = refl

one_tested : (b : Bool) (x y : Answer) → cond (b && true) x y ≡ cond b x y
one_tested true x y = refl
one_tested false x y = refl

front_tested : (calendar : Calendar) (x : Answer) (w : NamedWeekday) (a b c : Item) → AgreeAlways a → AgreeAlways b
    → AgreeAlways c → if_agreed calendar (Weekday w ∷ a ∷ b ∷ c ∷ []) x ≡ if_on calendar w x
front_tested calendar (Date y m d) w a b c p q r =
    rw (p calendar y m d, q calendar y m d, r calendar y m d)
    (one_tested (is_on calendar y m d w) (Date y m d) (OtherWeekday y m d))
front_tested calendar Stays w a b c p q r = refl
front_tested calendar NoSuchYear w a b c p q r = refl
front_tested calendar (OtherWeekday _ _ _) w a b c p q r = refl
front_tested calendar Refused w a b c p q r = refl
front_tested calendar (RomanDate _ _ _ _) w a b c p q r = refl

end_tested : (calendar : Calendar) (x : Answer) (w : NamedWeekday) (a b c : Item) → AgreeAlways a → AgreeAlways b
    → AgreeAlways c → if_agreed calendar (a ∷ b ∷ c ∷ Weekday w ∷ []) x ≡ if_on calendar w x
end_tested calendar (Date y m d) w a b c p q r =
    rw (p calendar y m d, q calendar y m d, r calendar y m d)
    (one_tested (is_on calendar y m d w) (Date y m d) (OtherWeekday y m d))
end_tested calendar Stays w a b c p q r = refl
end_tested calendar NoSuchYear w a b c p q r = refl
end_tested calendar (OtherWeekday _ _ _) w a b c p q r = refl
end_tested calendar Refused w a b c p q r = refl
end_tested calendar (RomanDate _ _ _ _) w a b c p q r = refl

alike : (choice : Choice) (calendar : Calendar) (pieces : List Piece) (a b c : Item) (reading : Reading) (w : NamedWeekday)
    → AgreeAlways a → AgreeAlways b → AgreeAlways c
    → reading_by (form calendar) choice pieces (a ∷ b ∷ c ∷ []) ≡ Some reading
    → reading_by (form calendar) choice pieces (Weekday w ∷ a ∷ b ∷ c ∷ []) ≡ Some reading
    → reading_by (form calendar) choice pieces (a ∷ b ∷ c ∷ Weekday w ∷ []) ≡ Some reading
    → SaysAlike choice calendar pieces (a ∷ b ∷ c ∷ []) reading w
alike choice calendar pieces a b c reading w p q r x y z = (
  rw x (kept_agreed calendar (date_of choice calendar (Some reading)) a b c p q r),
  rw y (front_tested calendar (date_of choice calendar (Some reading)) w a b c p q r),
  rw z (end_tested calendar (date_of choice calendar (Some reading)) w a b c p q r),
)

or_first : (o other : Option Reading) (reading : Reading) → o ≡ Some reading → or_reading o other ≡ Some reading
or_first o other reading e = rw e refl

pub weekdays_only_test : WeekdaysOnlyTest
weekdays_only_test choice calendar pieces (Number a ∷ Month m ∷ Number c ∷ []) reading w is_civil e =
    alike choice calendar pieces (Number a) (Month m) (Number c) reading w (λ k y n d. refl) (λ k y n d. refl)
    (λ k y n d. refl) (rw is_civil (or_first _ _ reading e)) (rw is_civil (or_first _ _ reading e))
    (rw is_civil (or_first _ _ reading e))
weekdays_only_test choice calendar pieces (Month m ∷ Number a ∷ Number c ∷ []) reading w is_civil e =
    alike choice calendar pieces (Month m) (Number a) (Number c) reading w (λ k y n d. refl) (λ k y n d. refl)
    (λ k y n d. refl) (rw is_civil (or_first _ _ reading e)) (rw is_civil (or_first _ _ reading e))
    (rw is_civil (or_first _ _ reading e))
weekdays_only_test choice calendar pieces (Number a ∷ Number b ∷ Number c ∷ []) reading w is_civil e =
    alike choice calendar pieces (Number a) (Number b) (Number c) reading w (λ k y n d. refl) (λ k y n d. refl)
    (λ k y n d. refl) (rw is_civil (or_first _ _ reading e)) (rw is_civil (or_first _ _ reading e))
    (rw is_civil (or_first _ _ reading e))
weekdays_only_test choice calendar pieces _ reading w is_civil e = absurd (cc)

-- ---- nothing is left over
-- a date is made of a year and a day in it
abbrev IsMade : Choice → Calendar → Option Reading → ℕ → ℕ → ℕ → Type 0
IsMade choice calendar reading y m d =
    (number : Numeral) × (day : InYear) × (reading ≡ Some (Civil number day)) × (is_half_year calendar number ≡ false)
    × (date_by_rule (short_rule choice calendar number) calendar (counted number day) day ≡ Date y m d)

whole_if : (half lacks month : Bool) (x : Answer) (y m d : ℕ)
    → cond (half || lacks || month) Stays x ≡ Date y m d → half ≡ false
whole_if true lacks month x y m d e = absurd (cc)
whole_if false lacks month x y m d e = refl

pub made_by : (choice : Choice) (calendar : Calendar) (reading : Option Reading) (y m d : ℕ)
    → date_of choice calendar reading ≡ Date y m d → IsMade choice calendar reading y m d
made_by choice calendar None y m d e = absurd (cc)
made_by choice calendar (Some (Civil number day)) y m d e = (
  number,
  day,
  refl,
  whole_if (is_half_year calendar number) (lacks_church (church_of calendar) day) (lacks_month number.year day) _ y m d e,
  date_by _ _ y m d e,
)
made_by choice calendar (Some (Roman _ _ _ _)) y m d e = absurd (cc)

made : (choice : Choice) (calendar : Calendar) (pieces : List Piece) (found : List Item) (y m d : ℕ)
    → items_answer choice calendar pieces found ≡ Date y m d
    → IsMade choice calendar (reading_by (form calendar) choice pieces found) y m d
made choice calendar pieces found y m d e =
    made_by choice calendar (reading_by (form calendar) choice pieces found) y m d (agreed_by calendar found _ y m d e).0

uses_of : (found : List Item) (number : Numeral) (day : InYear) → Uses found (Civil number day)
    → UsesAll found number day
uses_of found number day uses =
    let (year, other, same, all) = uses in
    let a : year ≡ number = cc in let b : other ≡ day = cc in
    subst (λ (x : InYear). UsesAll found number x) b (subst (λ (n : Numeral). UsesAll found n other) a all)

marked_alone : (b : Bool) (year month : ℕ) (mark : NamedMark) (count : ℕ) (number : Numeral) (day : InYear)
    → cond b (Some (Roman year month mark count)) None ≡ Some (Civil number day) → ⊥
marked_alone true year month mark count number day e = cc
marked_alone false year month mark count number day e = cc

no_civil : (charters : Bool) (found : List Item) (number : Numeral) (day : InYear)
    → roman_reading charters found ≡ Some (Civil number day) → ⊥
no_civil charters (Number n ∷ Mark k ∷ Month m ∷ Number y ∷ []) number day e =
    marked_alone (is_of_calendar y.year) _ _ _ _ number day e
no_civil charters (Mark k ∷ Month m ∷ Number y ∷ []) number day e =
    marked_alone (is_of_calendar y.year) _ _ _ _ number day e
no_civil charters _ number day e = cc

pub uses_by : (f : Form) (choice : Choice) (pieces : List Piece) (found : List Item) (number : Numeral) (day : InYear)
    → reading_by f choice pieces found ≡ Some (Civil number day) → UsesAll found number day
uses_by forms.Civil choice pieces found number day e =
    uses_of found number day (civil_uses pieces choice.order found (Civil number day) e)
uses_by forms.Roman choice pieces found number day e = absurd (no_civil choice.charters found number day e)
uses_by forms.Other choice pieces found number day e = absurd (cc)

pub nothing_is_left_over : NothingIsLeftOver
nothing_is_left_over choice calendar names text found y m d r =
    let (number, day, is, whole, date) =
    made choice calendar (tokens 0 text) found y m d (says choice calendar names text found y m d r) in
    (number, day, uses_by (form calendar) choice (tokens 0 text) found number day is, date)

whole_by : (b : Bool) (n : ℕ) → nat_lt n 100 ≡ b → b ≡ false → 100 ≤ n
whole_by b n e f = grind (arith, nat_tests)

named_whole : (named few : Bool) → (named && few) ≡ false → named ≡ true → few ≡ false
named_whole true few e is = e
named_whole false few e is = absurd (cc)

whole_of : (calendar : Calendar) (number : Numeral) → IsOfChurch calendar → is_half_year calendar number ≡ false
    → number.named ≡ true → 100 ≤ number.value
whole_of Gregorian number is e named = whole_by _ number.value refl (named_whole number.named _ e named)
whole_of Julian number is e named = whole_by _ number.value refl (named_whole number.named _ e named)
whole_of _ number (inl is) e named = absurd (cc)
whole_of _ number (inr is) e named = absurd (cc)

pub named_years_are_whole : NamedYearsAreWhole
named_years_are_whole choice calendar names text found y m d church r =
    let (number, day, is, whole, date) =
    made choice calendar (tokens 0 text) found y m d (says choice calendar names text found y m d r) in (
      number,
      day,
      uses_by (form calendar) choice (tokens 0 text) found number day is,
      whole_of calendar number church whole,
    )

-- ---- what holds of the items that are kept holds of all, where it holds of those that are not
back_if : (b : Bool) (P : Item → Type 0) (x : Item) (kept xs : List Item) → (b ≡ false → P x)
    → (All P kept → All P xs) → All P (cond b (x ∷ kept) kept) → All P (x ∷ xs)
back_if true P x kept xs other rest h =
    All-cons P x xs (h 0 x (omega arith)) (rest (λ k d below. h (suc k) d (omega arith)))
back_if false P x kept xs other rest h = All-cons P x xs (other refl) (rest h)

back : (test : Item → Bool) (P : Item → Type 0) (xs : List Item) → ((x : Item) → test x ≡ false → P x)
    → All P (filter test xs) → All P xs
back test P [] other h = λ k d below. absurd (omega arith)
back test P (x ∷ xs) other h =
    back_if (test x) P x (filter test xs) xs (other x) (back test P xs other) h

all_none : (P : Item → Type 0) → All P []
all_none P = λ k d below. absurd (omega arith)

all_one : (P : Item → Type 0) (a : Item) → P a → All P (a ∷ [])
all_one P a x = All-cons P a [] x (all_none P)

all_two : (P : Item → Type 0) (a b : Item) → P a → P b → All P (a ∷ b ∷ [])
all_two P a b x y = All-cons P a (b ∷ []) x (all_one P b y)

all_three : (P : Item → Type 0) (a b c : Item) → P a → P b → P c → All P (a ∷ b ∷ c ∷ [])
all_three P a b c x y z = All-cons P a (b ∷ c ∷ []) x (all_two P b c y z)

-- ---- a long number is the year
abbrev IsYearOrShort : Numeral → Item → Type 0
IsYearOrShort year item = (n : Numeral) → item ≡ Number n → is_long n ≡ true → n ≡ year

month_short : (year : Numeral) (item : Item) (month : ℕ) → IsMonthItem item month → IsYearOrShort year item
month_short year (Number k) month h n e long =
    let same : k ≡ n = cc in absurd (true≢false (sym long ∙ (ap is_long (sym same) ∙ h.1)))
month_short year (Month k) month h n e long = absurd (cc)
month_short year _ month h n e long = absurd h

day_short : (year : Numeral) (item : Item) (day : ℕ) → IsDayItem item day → IsYearOrShort year item
day_short year (Number k) day h n e long =
    let same : k ≡ n = cc in absurd (true≢false (sym long ∙ (ap is_long (sym same) ∙ h.1)))
day_short year _ day h n e long = absurd h

three_short : (found : List Item) (year : Numeral) (month day : ℕ) → AreYearMonthDay found year month day
    → All (IsYearOrShort year) found
three_short found year month day are =
    back is_no_weekday (IsYearOrShort year) found
    (λ x off n e long. absurd (true≢false (ap is_no_weekday (sym e) ∙ off)))
    (All-permutation (IsYearOrShort year) _ _ (IsPermutation-sym _ _ are.order)
    (all_three (IsYearOrShort year) (Number year) are.month_item are.day_item (λ n e long. cc)
    (month_short year are.month_item month are.is_month) (day_short year are.day_item day are.is_day)))

uses_short : (found : List Item) (year : Numeral) (day : InYear) → UsesAll found year day
    → All (IsYearOrShort year) found
uses_short found year (days.Day month day) are = three_short found year month day are
uses_short found year (days.NumberedWeekday n weekday month) are = three_short found year month n are.0
uses_short found year (days.Feast feast place) (inl alone) =
    back is_numeral (IsYearOrShort year) found (λ x off n e long. absurd (true≢false (ap is_numeral (sym e) ∙ off)))
    (subst (λ (zs : List Item). All (IsYearOrShort year) zs) (sym alone)
    (all_one (IsYearOrShort year) (Number year) (λ n e long. cc)))
uses_short found year (days.Feast feast place) (inr sunday) =
    back is_numeral (IsYearOrShort year) found (λ x off n e long. absurd (true≢false (ap is_numeral (sym e) ∙ off)))
    (subst (λ (zs : List Item). All (IsYearOrShort year) zs) (sym sunday.order)
    (all_two (IsYearOrShort year) (Number sunday.number) (Number year)
    (day_short year (Number sunday.number) sunday.number.value (refl, sunday.short)) (λ n e long. cc)))

stays_by : (o : Option (ℕ × ℕ)) (v y m d : ℕ) → date_or_stays v o ≡ Date y m d → y ≡ v
stays_by None v y m d e = absurd (cc)
stays_by (Some x) v y m d e = cc

pub year_by : (b : Bool) (o : Option (ℕ × ℕ)) (v y m d : ℕ) → cond b (date_or_stays v o) NoSuchYear ≡ Date y m d
    → (b ≡ true) × (y ≡ v) × (date_or_stays v o ≡ Date y m d)
year_by true o v y m d e = (refl, stays_by o v y m d e, e)
year_by false o v y m d e = absurd (cc)

kept_by : (short : Short) (calendar : Calendar) (v y m d : ℕ) (day : InYear) → short ≡ Keep
    → date_by_rule short calendar v day ≡ Date y m d → date_in calendar v day ≡ Date y m d
kept_by Keep calendar v y m d day k e = e
kept_by Refuse calendar v y m d day k e = absurd (cc)
kept_by (Add more) calendar v y m d day k e = absurd (cc)

is_long_four : (n : Numeral) → 4 ≤ n.digits → is_long n ≡ true
is_long_four n h = grind (arith, nat_tests)

is_long_marked : (n : Numeral) → is_some n.year ≡ true → is_long n ≡ true
is_long_marked n h = rw h refl

pub year_words_name_years : YearWordsNameYears
year_words_name_years choice calendar names text found y m d n r has marked =
    let (number, day, uses, date) = nothing_is_left_over choice calendar names text found y m d r in
    let same : n ≡ number =
    All-contains (IsYearOrShort number) found (Number n) (uses_short found number day uses) has n refl
    (is_long_marked n marked) in (
      day,
      subst (λ (k : Numeral). date_by_rule (short_rule choice calendar k) calendar (counted k day) day ≡ Date y m d)
          (sym same) date,
    )

counted_plainly : (era : Option Era) (year : ℕ) (day : InYear) → is_of_calendar era ≡ true
    → counted_by era year day ≡ year
counted_plainly None year day e = refl
counted_plainly (Some eras.Calendar) year day e = refl
counted_plainly (Some eras.Spanish) year day e = absurd (cc)
counted_plainly (Some eras.Creation) year day e = absurd (cc)

pub long_numbers_are_years : LongNumbersAreYears
long_numbers_are_years choice calendar names text found y m d n r has four plain =
    let (number, day, uses, date) = nothing_is_left_over choice calendar names text found y m d r in
    let same : n ≡ number =
    All-contains (IsYearOrShort number) found (Number n) (uses_short found number day uses) has n refl
    (is_long_four n four) in
    let digits : 3 < number.digits = omega (arith, ap (λ (k : Numeral). k.digits) same) in
    let keep = long_kept choice calendar number digits in
    let own = kept_by _ calendar (counted number day) y m d day keep date in
    let of_calendar : is_of_calendar number.year ≡ true
    = subst (λ (k : Numeral). is_of_calendar k.year ≡ true) same plain in
    (year_by (has_year calendar (counted number day)) (month_and_day calendar (counted number day) day)
    (counted number day) y m d own).1
    ∙ counted_plainly number.year number.value day of_calendar ∙ ap (λ (k : Numeral). k.value) (sym same)

-- ---- a month by name is the month
abbrev IsThisMonth : ℕ → Item → Type 0
IsThisMonth month item = (m : ℕ) → item ≡ Month m → month ≡ m

month_this : (item : Item) (month : ℕ) → IsMonthItem item month → IsThisMonth month item
month_this (Month k) month h m e = cc
month_this (Number k) month h m e = absurd (cc)
month_this _ month h m e = absurd h

day_this : (item : Item) (month day : ℕ) → IsDayItem item day → IsThisMonth month item
day_this (Number k) month day h m e = absurd (cc)
day_this _ month day h m e = absurd h

three_this : (found : List Item) (year : Numeral) (month day : ℕ) → AreYearMonthDay found year month day
    → All (IsThisMonth month) found
three_this found year month day are =
    back is_no_weekday (IsThisMonth month) found (λ x off m e. absurd (true≢false (ap is_no_weekday (sym e) ∙ off)))
    (All-permutation (IsThisMonth month) _ _ (IsPermutation-sym _ _ are.order)
    (all_three (IsThisMonth month) (Number year) are.month_item are.day_item (λ m e. absurd (cc))
    (month_this are.month_item month are.is_month) (day_this are.day_item month day are.is_day)))

-- no month stands beside a feast
no_month : (found rest : List Item) (month : ℕ) → filter is_numeral found ≡ rest → All (IsThisMonth month) rest
    → All (IsThisMonth month) found
no_month found rest month e h =
    back is_numeral (IsThisMonth month) found (λ x off m e. absurd (true≢false (ap is_numeral (sym e) ∙ off)))
    (subst (λ (zs : List Item). All (IsThisMonth month) zs) (sym e) h)

uses_this : (found : List Item) (year : Numeral) (day : InYear) (month : ℕ) → UsesAll found year day
    → ((m d : ℕ) → day ≡ days.Day m d → m ≡ month)
    → ((n m : ℕ) (w : NamedWeekday) → day ≡ days.NumberedWeekday n w m → m ≡ month) → All (IsThisMonth month) found
uses_this found year (days.Day m d) month are plain numbered =
    subst (λ (k : ℕ). All (IsThisMonth k) found) (plain m d refl) (three_this found year m d are)
uses_this found year (days.NumberedWeekday n w m) month are plain numbered =
    subst (λ (k : ℕ). All (IsThisMonth k) found) (numbered n m w refl) (three_this found year m n are.0)
uses_this found year (days.Feast feast place) month (inl alone) plain numbered =
    no_month found _ month alone (all_one (IsThisMonth month) (Number year) (λ m e. absurd (cc)))
uses_this found year (days.Feast feast place) month (inr sunday) plain numbered =
    no_month found _ month sunday.order
    (all_two (IsThisMonth month) (Number sunday.number) (Number year) (λ m e. absurd (cc)) (λ m e. absurd (cc)))

month_of_by : (o : Option ℕ) (v month y m d : ℕ) → date_or_stays v (in_month month o) ≡ Date y m d → month ≡ m
month_of_by None v month y m d e = absurd (cc)
month_of_by (Some x) v month y m d e = cc

in_month_of : (calendar : Calendar) (v y m d : ℕ) (day : InYear) → date_in calendar v day ≡ Date y m d
    → ((k e : ℕ) → day ≡ days.Day k e → k ≡ m)
    × ((n k : ℕ) (w : NamedWeekday) → day ≡ days.NumberedWeekday n w k → k ≡ m)
in_month_of calendar v y m d (days.Day month e) h =
    let own = (year_by (has_year calendar v) (Some (month, e)) v y m d h).2 in
    let same : month ≡ m = cc in (λ k f g. cc, λ n k w g. absurd (cc))
in_month_of calendar v y m d (days.NumberedWeekday n w month) h =
    let own = (year_by (has_year calendar v) (in_month month (numbered_weekday calendar v month w n)) v y m d h).2 in
    let same = month_of_by (numbered_weekday calendar v month w n) v month y m d own in
    (λ k f g. absurd (cc), λ i k x g. cc)
in_month_of calendar v y m d (days.Feast feast place) h = (λ k f g. absurd (cc), λ n k w g. absurd (cc))

ruled_month : (short : Short) (calendar : Calendar) (v y m d : ℕ) (day : InYear)
    → date_by_rule short calendar v day ≡ Date y m d
    → ((k e : ℕ) → day ≡ days.Day k e → k ≡ m)
    × ((n k : ℕ) (w : NamedWeekday) → day ≡ days.NumberedWeekday n w k → k ≡ m)
ruled_month Keep calendar v y m d day e = in_month_of calendar v y m d day e
ruled_month (Add more) calendar v y m d day e = in_month_of calendar (v + more) y m d day e
ruled_month Refuse calendar v y m d day e = absurd (cc)

pub months_are_months : MonthsAreMonths
months_are_months choice calendar names text found y m d month r has =
    let (number, day, uses, date) = nothing_is_left_over choice calendar names text found y m d r in
    let kept = ruled_month (short_rule choice calendar number) calendar (counted number day) y m d day date in
    All-contains (IsThisMonth m) found (Month month) (uses_this found number day m uses kept.0 kept.1) has month refl

-- ---- the month and the day by the places of the items
-- the month and the day that are said are those of the date
abbrev IsOf : Option Reading → ℕ → ℕ → Type 0
IsOf reading m d = (y : Numeral) (k e : ℕ) → reading ≡ Some (Civil y (days.Day k e)) → (k ≡ m) × (e ≡ d)

day_of_by : (calendar : Calendar) (v y m d k e : ℕ) → date_in calendar v (days.Day k e) ≡ Date y m d
    → (k ≡ m) × (e ≡ d)
day_of_by calendar v y m d k e h =
    let own = (year_by (has_year calendar v) (Some (k, e)) v y m d h).2 in (cc, cc)

ruled_day : (short : Short) (calendar : Calendar) (v y m d k e : ℕ)
    → date_by_rule short calendar v (days.Day k e) ≡ Date y m d → (k ≡ m) × (e ≡ d)
ruled_day Keep calendar v y m d k e h = day_of_by calendar v y m d k e h
ruled_day (Add more) calendar v y m d k e h = day_of_by calendar (v + more) y m d k e h
ruled_day Refuse calendar v y m d k e h = absurd (cc)

said_day : (choice : Choice) (calendar : Calendar) (reading : Option Reading) (y m d : ℕ)
    → date_of choice calendar reading ≡ Date y m d → IsOf reading m d
said_day choice calendar None y m d h year k e is = absurd (cc)
said_day choice calendar (Some (Civil number day)) y m d h year k e is =
    let a : number ≡ year = cc in let b : day ≡ days.Day k e = cc in
    ruled_day (short_rule choice calendar number) calendar (counted number (days.Day k e)) y m d k e
    (subst (λ (x : InYear). date_by_rule (short_rule choice calendar number) calendar (counted number x) x ≡ Date y m d) b
    (date_by _ _ y m d h))
said_day choice calendar (Some (Roman _ _ _ _)) y m d h year k e is = absurd (cc)

-- a month in front is read only where the day is short, and no dash or slash stands before a short year
abbrev IsBehind : List Piece → ℕ → Numeral → Numeral → Type 0
IsBehind pieces day a c =
    (day ≡ a.value) × (is_long a ≡ false) × (is_long c ≡ false → has_bar_between pieces ≡ false)

behind_if : (la lc bar : Bool) (choice : Choice) (calendar : Calendar) (pieces : List Piece) (m y month day : ℕ)
    (a c : Numeral) → is_long a ≡ la → is_long c ≡ lc → has_bar_between pieces ≡ bar
    → date_of choice calendar (or_reading (cond (la || (not lc && bar)) None (civil c m a.value)) None)
    ≡ Date y month day → IsBehind pieces day a c
behind_if true lc bar choice calendar pieces m y month day a c ea ec eb h = absurd (cc)
behind_if false false true choice calendar pieces m y month day a c ea ec eb h = absurd (cc)
behind_if false false false choice calendar pieces m y month day a c ea ec eb h =
    (sym (said_day choice calendar (civil c m a.value) y month day h c m a.value refl).1, ea, λ e. eb)
behind_if false true bar choice calendar pieces m y month day a c ea ec eb h =
    (sym (said_day choice calendar (civil c m a.value) y month day h c m a.value refl).1, ea, λ e. absurd (cc))

behind_form : (f : Form) (choice : Choice) (calendar : Calendar) (pieces : List Piece) (m y month day : ℕ) (a c : Numeral)
    → date_of choice calendar (reading_by f choice pieces (Month m ∷ Number a ∷ Number c ∷ [])) ≡ Date y month day
    → IsBehind pieces day a c
behind_form forms.Civil choice calendar pieces m y month day a c h =
    behind_if (is_long a) (is_long c) (has_bar_between pieces) choice calendar pieces m y month day a c refl refl refl h
behind_form forms.Roman choice calendar pieces m y month day a c h = absurd (cc)
behind_form forms.Other choice calendar pieces m y month day a c h = absurd (cc)

behind : (choice : Choice) (calendar : Calendar) (names : List Name) (text : List ℕ) (y month day m : ℕ) (a c : Numeral)
    → IsRead choice calendar names text (Month m ∷ Number a ∷ Number c ∷ []) y month day
    → IsBehind (tokens 0 text) day a c
behind choice calendar names text y month day m a c r =
    behind_form (form calendar) choice calendar (tokens 0 text) m y month day a c
    (agreed_by calendar (Month m ∷ Number a ∷ Number c ∷ []) _ y month day
    (says choice calendar names text (Month m ∷ Number a ∷ Number c ∷ []) y month day r)).0

pub days_stand_behind_months : DaysStandBehindMonths
days_stand_behind_months choice calendar names text y month day m a c r =
    let is = behind choice calendar names text y month day m a c r in (is.0, is.1)

pub days_to_days_stay : DaysToDaysStay
days_to_days_stay choice calendar names text y month day m a c r =
    (behind choice calendar names text y month day m a c r).2

-- a month that is said between two numbers
between_month : (la lc yf : Bool) (choice : Choice) (calendar : Calendar) (k y month day : ℕ) (a c : Numeral)
    → date_of choice calendar (or_reading (cond (la && lc) None (cond (la || (not lc && yf)) (civil a k c.value)
    (civil c k a.value))) None) ≡ Date y month day
    → month ≡ k
between_month true true yf choice calendar k y month day a c h = absurd (cc)
between_month true false yf choice calendar k y month day a c h =
    sym (said_day choice calendar (civil a k c.value) y month day h a k c.value refl).0
between_month false true yf choice calendar k y month day a c h =
    sym (said_day choice calendar (civil c k a.value) y month day h c k a.value refl).0
between_month false false true choice calendar k y month day a c h =
    sym (said_day choice calendar (civil a k c.value) y month day h a k c.value refl).0
between_month false false false choice calendar k y month day a c h =
    sym (said_day choice calendar (civil c k a.value) y month day h c k a.value refl).0

middle_if : (refused mid : Bool) (choice : Choice) (calendar : Calendar) (order : Order) (other : Option Reading)
    (y month day : ℕ) (a b c : Numeral) → mid ≡ true
    → date_of choice calendar
    (or_reading (cond refused None (cond mid (month_between order a b.value c) other)) None) ≡ Date y month day
    → month ≡ b.value
middle_if true mid choice calendar order other y month day a b c is h = absurd (cc)
middle_if false true choice calendar order other y month day a b c is h =
    between_month (is_long a) (is_long c) (is_year_first order) choice calendar b.value y month day a c h
middle_if false false choice calendar order other y month day a b c is h = absurd (cc)

middle_form : (f : Form) (choice : Choice) (calendar : Calendar) (pieces : List Piece) (y month day : ℕ) (a b c : Numeral)
    → is_month_between a b c ≡ true
    → date_of choice calendar (reading_by f choice pieces (Number a ∷ Number b ∷ Number c ∷ [])) ≡ Date y month day
    → month ≡ b.value
middle_form forms.Civil choice calendar pieces y month day a b c mid h =
    middle_if (is_long b || (is_long a && is_long c) || has_mixed_signs pieces) (is_month_between a b c) choice calendar
    choice.order _ y month day a b c mid h
middle_form forms.Roman choice calendar pieces y month day a b c mid h = absurd (cc)
middle_form forms.Other choice calendar pieces y month day a b c mid h = absurd (cc)

is_middle : (a b c : Numeral) → 0 < a.digits → b.digits ≡ 0 → 0 < c.digits → is_month_between a b c ≡ true
is_middle a b c p q r = grind (arith, nat_tests)

pub roman_numbers_are_months : RomanNumbersAreMonths
roman_numbers_are_months choice calendar names text y month day a b c read p q r =
    middle_form (form calendar) choice calendar (tokens 0 text) y month day a b c (is_middle a b c p q r)
    (agreed_by calendar (Number a ∷ Number b ∷ Number c ∷ []) _ y month day
    (says choice calendar names text (Number a ∷ Number b ∷ Number c ∷ []) y month day read)).0

-- ---- three numbers have like signs
mixed_if : (b la lc mixed : Bool) (choice : Choice) (calendar : Calendar) (other : Option Reading) (y month day : ℕ)
    → date_of choice calendar (or_reading (cond (b || (la && lc) || mixed) None other) None) ≡ Date y month day
    → mixed ≡ false
mixed_if b la lc false choice calendar other y month day h = refl
mixed_if true la lc true choice calendar other y month day h = absurd (cc)
mixed_if false true true true choice calendar other y month day h = absurd (cc)
mixed_if false true false true choice calendar other y month day h = absurd (cc)
mixed_if false false lc true choice calendar other y month day h = absurd (cc)

mixed_form : (f : Form) (choice : Choice) (calendar : Calendar) (pieces : List Piece) (y month day : ℕ) (a b c : Numeral)
    → date_of choice calendar (reading_by f choice pieces (Number a ∷ Number b ∷ Number c ∷ [])) ≡ Date y month day
    → has_mixed_signs pieces ≡ false
mixed_form forms.Civil choice calendar pieces y month day a b c h =
    mixed_if (is_long b) (is_long a) (is_long c) (has_mixed_signs pieces) choice calendar _ y month day h
mixed_form forms.Roman choice calendar pieces y month day a b c h = absurd (cc)
mixed_form forms.Other choice calendar pieces y month day a b c h = absurd (cc)

pub mixed_signs_stay : MixedSignsStay
mixed_signs_stay choice calendar names text y month day a b c r =
    mixed_form (form calendar) choice calendar (tokens 0 text) y month day a b c
    (agreed_by calendar (Number a ∷ Number b ∷ Number c ∷ []) _ y month day
    (says choice calendar names text (Number a ∷ Number b ∷ Number c ∷ []) y month day r)).0

-- ---- a minus
stays_for : (b : Bool) (x : Answer) → b ≡ true → cond b Stays x ≡ Stays
stays_for true x h = refl
stays_for false x h = absurd (cc)

either_two : (a b c : Bool) → b ≡ true → (a || b || c) ≡ true
either_two a b c h = grind arith

pub minuses_are_not_read : MinusesAreNotRead
unfolding answer
minuses_are_not_read choice calendar names text minus =
    stays_for _ _
    (either_two (has_other (tokens 0 text)) (has_minus (tokens 0 text)) (begins_with_dash (bare (tokens 0 text))) minus)

stay_by : (f : Form) (choice : Choice) (calendar : Calendar) (names : List Name) (text : List ℕ)
    → three_runs (tokens 0 text) ≡ None → runs_behind_minus (tokens 0 text) ≡ None
    → answer choice calendar names text ≡ Stays → written_form f choice calendar names text ≡ text
stay_by forms.Civil choice calendar names text runs below e = rw (runs, below, e) refl
stay_by forms.Roman choice calendar names text runs below e = rw e refl
stay_by forms.Other choice calendar names text runs below e = rw e refl

pub minuses_stay : MinusesStay
minuses_stay choice calendar names text minus runs below =
    rw (minus_whole choice calendar names text minus)
    (stay_by (form calendar) choice calendar names text runs below
    (minuses_are_not_read choice calendar names text minus))

-- ---- years of the Republic
few_by : (b : Bool) (v : ℕ) → nat_le v 99 ≡ b → b ≡ true → v ≤ 99
few_by b v e t = grind (arith, nat_tests)

in_republic : (calendar : Calendar) (v : ℕ) (day : InYear) (y m d : ℕ) → IsRepublican calendar
    → date_in calendar v day ≡ Date y m d → y ≤ 99
in_republic French v day y m d is e =
    let own = year_by (nat_le v 99) (month_and_day French v day) v y m d e in
    let few = few_by _ v refl own.0 in omega (arith, own.1)
in_republic Republican v day y m d is e =
    let own = year_by (nat_le v 99) (month_and_day Republican v day) v y m d e in
    let few = few_by _ v refl own.0 in omega (arith, own.1)
in_republic _ v day y m d (inl is) e = absurd (cc)
in_republic _ v day y m d (inr is) e = absurd (cc)

republic_by : (short : Short) (calendar : Calendar) (v : ℕ) (day : InYear) (y m d : ℕ) → IsRepublican calendar
    → date_by_rule short calendar v day ≡ Date y m d → y ≤ 99
republic_by Keep calendar v day y m d is e = in_republic calendar v day y m d is e
republic_by (Add more) calendar v day y m d is e = in_republic calendar (v + more) day y m d is e
republic_by Refuse calendar v day y m d is e = absurd (cc)

pub years_of_the_republic : YearsOfTheRepublic
years_of_the_republic choice calendar names text y m d is e =
    let (found, has) = said choice calendar names text y m d e in
    let (number, day, reading, whole, date) = made choice calendar (tokens 0 text) found y m d has in
    republic_by (short_rule choice calendar number) calendar (counted number day) day y m d is date
