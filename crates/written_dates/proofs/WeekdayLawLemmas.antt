-- Weekdays in a month that are numbered, and dates that stand beside another weekday.
use Rattle.std.proofs.Common.{◌≡◌, ℕ, zero, suc, ◌+◌, ◌-◌, ◌*◌, ◌<◌, ◌≤◌, Bool, true, false, not, ◌&&◌, ◌||◌}
use Rattle.std.specs.Prelude.{⊤}
use Rattle.std.proofs.Common.{cond, refl, arith, List, [], ◌∷◌, Option, Some, None, ◌==◌, nat_le}
use Rattle.std.specs.List.{list_all, Contains}
use Rattle.std.proofs.lemmas.Bool.Decides.{nat_tests}
use Rattle.day_numbers.specs.declared.day.Weekday.{Weekday as NamedWeekday}
use Rattle.date_texts.specs.declared.calendar.Calendar.{Calendar}
use Rattle.written_dates.specs.declared.calendars.Form.{Form}
use Rattle.written_dates.specs.declared.calendars.Form.TheVariants as forms
use Rattle.written_dates.specs.declared.items.Number.{Number as Numeral}
use Rattle.written_dates.specs.declared.items.Item.{Item}
use Rattle.written_dates.specs.declared.items.Item.TheVariants.{Number, Month, Weekday, DecadeDay}
use Rattle.written_dates.specs.declared.meanings.Name.{Name}
use Rattle.written_dates.specs.declared.rules.InYear.{InYear}
use Rattle.written_dates.specs.declared.rules.InYear.TheVariants as days
use Rattle.written_dates.specs.declared.rules.Reading.{Reading}
use Rattle.written_dates.specs.declared.rules.Reading.TheVariants.{Civil, Roman}
use Rattle.written_dates.specs.declared.written.Answer.{Answer}
use Rattle.written_dates.specs.declared.written.Answer.TheVariants.{Stays, NoSuchYear, OtherWeekday, Refused, Date, RomanDate}
use Rattle.written_dates.specs.declared.written.Choice.{Choice}
use Rattle.written_dates.specs.declared.written.Short.{Short}
use Rattle.written_dates.specs.declared.written.Short.TheVariants.{Refuse, Keep, Add}
use Rattle.written_dates.specs.Calendars.{form}
use Rattle.written_dates.specs.Tokens.{Piece, tokens}
use Rattle.written_dates.specs.Items.{is_long}
use Rattle.written_dates.specs.Sums.{found_items}
use Rattle.written_dates.specs.Signs.{bare, begins_with_dash, has_minus, has_other}
use Rattle.written_dates.specs.Rules.{beside_weekday, or_reading}
use Rattle.written_dates.specs.Weekdays.{is_on, first_on, if_no_other, numbered_weekday}
use Rattle.written_dates.specs.Written.{agrees, answer, answer_by, counted, date_by_rule, date_in, date_of, date_or_stays, has_year}
use Rattle.written_dates.specs.Written.{if_agreed, in_month, items_answer, month_and_day, reading_by, short_rule}
use Rattle.written_dates.specs.ReadLaws.{NumberedWeekdays}
use Rattle.written_dates.specs.declared.stops.Stop.TheVariants as stops
use Rattle.written_dates.specs.Stops.{stop, stop_by, stop_in, without_time, missing, missing_in, IsNotOn, SaysOtherWeekday, OtherWeekdaysStop}
use Rattle.written_dates.proofs.ReadLawLemmas.{date_by, says, agreed_by, made_by, uses_by, year_by}

-- ---- weekdays that are numbered
first_if : (b : Bool) (later : Option ℕ) (left from day : ℕ)
    → (later ≡ Some day → (from + 1 ≤ day) × (day < from + 1 + left)) → cond b (Some from) later ≡ Some day
    → (from ≤ day) × (day < from + suc left)
first_if true later left from day rest e = let same : from ≡ day = cc in (omega arith, omega arith)
first_if false later left from day rest e = let both = rest e in (omega arith, omega arith)

first_within : (calendar : Calendar) (year month : ℕ) (w : NamedWeekday) (left from day : ℕ)
    → first_on calendar year month w left from ≡ Some day → (from ≤ day) × (day < from + left)
unfolding first_on
first_within calendar year month w zero from day e = absurd (cc)
first_within calendar year month w (suc left) from day e =
    first_if (is_on calendar year month from w) (first_on calendar year month w left (from + 1)) left from day
    (first_within calendar year month w left (from + 1) day) e

no_other_if : (also same : Bool) (n day x : ℕ) → (x == n) ≡ same → cond (also && not same) None (Some x) ≡ Some day
    → (Some x ≡ Some day) × (also ≡ true → day ≡ n)
no_other_if true true n day x is e =
    let equal : x ≡ n = grind (arith, nat_tests) in let found : x ≡ day = cc in (e, λ a. omega arith)
no_other_if true false n day x is e = absurd (cc)
no_other_if false same n day x is e = (e, λ a. absurd (cc))

no_other_by : (also : Bool) (n day : ℕ) (o : Option ℕ) → if_no_other also n o ≡ Some day
    → (o ≡ Some day) × (also ≡ true → day ≡ n)
no_other_by also n day None e = absurd (cc)
no_other_by also n day (Some x) e = no_other_if also (x == n) n day x refl e

numbered_by : (b : Bool) (o : Option ℕ) (day : ℕ) → cond b o None ≡ Some day → (b ≡ true) × (o ≡ Some day)
numbered_by true o day e = (refl, e)
numbered_by false o day e = absurd (cc)

abbrev IsNth : Calendar → ℕ → ℕ → NamedWeekday → ℕ → ℕ → Type 0
IsNth calendar year month w n day =
    (7 * n < day + 7) × (day ≤ 7 * n) × (is_on calendar year month n w ≡ true → day ≡ n)

nth : (calendar : Calendar) (year month n day : ℕ) (w : NamedWeekday)
    → numbered_weekday calendar year month w n ≡ Some day → IsNth calendar year month w n day
nth calendar year month n day w e =
    let in_range =
    numbered_by (nat_le 1 n && nat_le n 5)
    (if_no_other (is_on calendar year month n w) n (first_on calendar year month w 7 (7 * n - 6))) day e in
    let some : 1 ≤ n = grind (arith, nat_tests, in_range.0) in
    let only =
    no_other_by (is_on calendar year month n w) n day (first_on calendar year month w 7 (7 * n - 6)) in_range.1 in
    let within = first_within calendar year month w 7 (7 * n - 6) day only.0 in
    (omega arith, omega arith, only.1)

in_month_nth : (calendar : Calendar) (v y m d month n : ℕ) (w : NamedWeekday) (o : Option ℕ)
    → numbered_weekday calendar v month w n ≡ o → y ≡ v
    → date_or_stays v (in_month month o) ≡ Date y m d → IsNth calendar y m w n d
in_month_nth calendar v y m d month n w None is own e = absurd (cc)
in_month_nth calendar v y m d month n w (Some x) is own e =
    let a : month ≡ m = cc in let b : x ≡ d = cc in
    let one : numbered_weekday calendar y m w n ≡ Some d = rw (own, ← a, ← b) is in
    nth calendar y m n d w one

date_nth : (calendar : Calendar) (v y m d month n : ℕ) (w : NamedWeekday)
    → date_in calendar v (days.NumberedWeekday n w month) ≡ Date y m d → IsNth calendar y m w n d
date_nth calendar v y m d month n w e =
    let own =
    year_by (has_year calendar v) (in_month month (numbered_weekday calendar v month w n)) v y m d e in
    in_month_nth calendar v y m d month n w (numbered_weekday calendar v month w n) refl own.1 own.2

ruled_nth : (short : Short) (calendar : Calendar) (v y m d month n : ℕ) (w : NamedWeekday)
    → date_by_rule short calendar v (days.NumberedWeekday n w month) ≡ Date y m d → IsNth calendar y m w n d
ruled_nth Keep calendar v y m d month n w e = date_nth calendar v y m d month n w e
ruled_nth (Add more) calendar v y m d month n w e = date_nth calendar (v + more) y m d month n w e
ruled_nth Refuse calendar v y m d month n w e = absurd (cc)

long_nth : (long : Bool) (choice : Choice) (calendar : Calendar) (n y : Numeral) (w : NamedWeekday) (m year month day : ℕ)
    → date_of choice calendar (cond long None (Some (Civil y (days.NumberedWeekday n.value w m)))) ≡ Date year month day
    → IsNth calendar year month w n.value day
long_nth true choice calendar n y w m year month day e = absurd (cc)
long_nth false choice calendar n y w m year month day e =
    ruled_nth (short_rule choice calendar y) calendar (counted y (days.NumberedWeekday n.value w m)) year month day m n.value w
    (date_by _ _ year month day e)

abbrev numbered_items : Numeral → NamedWeekday → ℕ → Numeral → List Item
numbered_items n w m y = Number n ∷ Weekday w ∷ Month m ∷ Number y ∷ []

civil_nth : (long : Bool) (choice : Choice) (calendar : Calendar) (reading : Reading) (a : Answer)
    → date_of choice calendar (or_reading (cond long None (Some reading)) None) ≡ a
    → date_of choice calendar (cond long None (Some reading)) ≡ a
civil_nth true choice calendar reading a e = e
civil_nth false choice calendar reading a e = e

form_nth : (f : Form) (choice : Choice) (calendar : Calendar) (pieces : List Piece) (n y : Numeral) (w : NamedWeekday)
    (m year month day : ℕ)
    → date_of choice calendar (reading_by f choice pieces (numbered_items n w m y)) ≡ Date year month day
    → IsNth calendar year month w n.value day
form_nth forms.Civil choice calendar pieces n y w m year month day e =
    long_nth (is_long n) choice calendar n y w m year month day (civil_nth (is_long n) choice calendar _ _ e)
form_nth forms.Roman choice calendar pieces n y w m year month day e = absurd (cc)
form_nth forms.Other choice calendar pieces n y w m year month day e = absurd (cc)

pub numbered_weekdays : NumberedWeekdays
numbered_weekdays choice calendar names text year month day m n y w r =
    form_nth (form calendar) choice calendar (tokens 0 text) n y w m year month day
    (agreed_by calendar (numbered_items n w m y) _ year month day
    (says choice calendar names text (numbered_items n w m y) year month day r)).0

-- ---- another weekday
-- an answer that names another weekday
abbrev IsOther : Answer → Type 0
IsOther (OtherWeekday _ _ _) = ⊤
IsOther x = ⊥

other_by : (b : Bool) (x : Answer) → IsOther (cond b Stays x) → IsOther x
other_by true x e = absurd e
other_by false x e = e

found_other : (o : Option (List Item)) (say : List Item → Answer) → IsOther (answer_by o say)
    → (found : List Item) × (o ≡ Some found) × IsOther (say found)
found_other None say e = absurd e
found_other (Some xs) say e = (xs, refl, e)

-- a date of which not every weekday agrees
abbrev Disagrees : Calendar → List Item → Answer → Type 0
Disagrees calendar found a =
    (y m d : ℕ) × (a ≡ Date y m d) × (list_all (agrees calendar y m d) found ≡ false)

disagreed_if : (b : Bool) (calendar : Calendar) (found : List Item) (y m d : ℕ)
    → list_all (agrees calendar y m d) found ≡ b → IsOther (cond b (Date y m d) (OtherWeekday y m d))
    → Disagrees calendar found (Date y m d)
disagreed_if true calendar found y m d all e = absurd e
disagreed_if false calendar found y m d all e = (y, m, d, refl, all)

disagreed_by : (calendar : Calendar) (found : List Item) (a : Answer) → (IsOther a → ⊥)
    → IsOther (if_agreed calendar found a) → Disagrees calendar found a
disagreed_by calendar found (Date y m d) never e =
    disagreed_if (list_all (agrees calendar y m d) found) calendar found y m d refl e
disagreed_by calendar found (OtherWeekday _ _ _) never e = absurd (never tt)
disagreed_by calendar found Stays never e = absurd e
disagreed_by calendar found NoSuchYear never e = absurd e
disagreed_by calendar found Refused never e = absurd e
disagreed_by calendar found (RomanDate _ _ _ _) never e = absurd e

stays_never : (o : Option (ℕ × ℕ)) (v : ℕ) → IsOther (date_or_stays v o) → ⊥
stays_never None v e = e
stays_never (Some x) v e = e

year_never : (b : Bool) (o : Option (ℕ × ℕ)) (v : ℕ) → IsOther (cond b (date_or_stays v o) NoSuchYear) → ⊥
year_never true o v e = stays_never o v e
year_never false o v e = e

rule_never : (short : Short) (calendar : Calendar) (v : ℕ) (day : InYear)
    → IsOther (date_by_rule short calendar v day) → ⊥
rule_never Refuse calendar v day e = e
rule_never Keep calendar v day e = year_never (has_year calendar v) (month_and_day calendar v day) v e
rule_never (Add more) calendar v day e =
    year_never (has_year calendar (v + more)) (month_and_day calendar (v + more) day) (v + more) e

never_other : (choice : Choice) (calendar : Calendar) (reading : Option Reading)
    → IsOther (date_of choice calendar reading) → ⊥
never_other choice calendar None e = e
never_other choice calendar (Some (Civil number day)) e =
    rule_never (short_rule choice calendar number) calendar (counted number day) day (other_by _ _ e)
never_other choice calendar (Some (Roman _ _ _ _)) e = e

-- the weekday that does not
abbrev HasOther : Calendar → ℕ → ℕ → ℕ → List Item → Type 0
HasOther calendar y m d xs = (x : Item) × Contains xs x × IsNotOn calendar y m d x

other_if : (b : Bool) (calendar : Calendar) (y m d : ℕ) (x : Item) (xs : List Item) → agrees calendar y m d x ≡ b
    → (list_all (agrees calendar y m d) xs ≡ false → HasOther calendar y m d xs)
    → (b && list_all (agrees calendar y m d) xs) ≡ false → HasOther calendar y m d (x ∷ xs)
other_if false calendar y m d (Weekday w) xs is rest e = (Weekday w, (0, omega arith, refl), is)
other_if false calendar y m d (DecadeDay n) xs is rest e = (DecadeDay n, (0, omega arith, refl), is)
other_if false calendar y m d _ xs is rest e = absurd (cc)
other_if true calendar y m d x xs is rest e =
    let (z, (k, below, at), off) = rest e in (z, (suc k, omega arith, at), off)

other_in : (calendar : Calendar) (y m d : ℕ) (xs : List Item) → list_all (agrees calendar y m d) xs ≡ false
    → HasOther calendar y m d xs
other_in calendar y m d [] e = absurd (cc)
other_in calendar y m d (x ∷ xs) e =
    other_if (agrees calendar y m d x) calendar y m d x xs refl (other_in calendar y m d xs) e

says_other : (choice : Choice) (calendar : Calendar) (names : List Name) (text : List ℕ)
    → IsOther (answer choice calendar names text) → SaysOtherWeekday choice calendar names text
unfolding answer
says_other choice calendar names text e =
    let pieces = tokens 0 text in
    let (found, has, say) =
    found_other (found_items calendar names text) (items_answer choice calendar pieces) (other_by _ _ e) in
    let reading = reading_by (form calendar) choice pieces found in
    let (y, m, d, date, not_all) =
    disagreed_by calendar found (date_of choice calendar reading) (never_other choice calendar reading) say in
    let (number, day, is, whole, own) = made_by choice calendar reading y m d date in
    let (x, stands, off) = other_in calendar y m d found not_all in
    record {
      found = found;
      has = has;
      number = number;
      in_year = day;
      uses = uses_by (form calendar) choice pieces found number day is;
      year = y;
      month = m;
      day = d;
      date = own;
      weekday = x;
      stands = stands;
      other = off;
    }

either_never : (b : Bool) → Some (cond b stops.NoDay stops.NoYear) ≡ Some stops.OtherWeekday → ⊥
either_never true e = cc
either_never false e = cc

day_never : (b : Bool) → Some (cond b stops.NoDay stops.NoDate) ≡ Some stops.OtherWeekday → ⊥
day_never true e = cc
day_never false e = cc

missing_never : (xs : List Item) → Some (missing xs) ≡ Some stops.OtherWeekday → ⊥
missing_never (Month m ∷ Number n ∷ []) e = either_never (is_long n) e
missing_never (Number n ∷ Month m ∷ []) e = either_never (is_long n) e
missing_never (Number n ∷ []) e = day_never (is_long n) e
missing_never _ e = cc

missing_in_never : (o : Option (List Item)) → Some (missing_in o) ≡ Some stops.OtherWeekday → ⊥
missing_in_never None e = cc
missing_in_never (Some xs) e = missing_never (beside_weekday xs) e

stop_if : (a b : Bool) (o : Option (List Item)) (x : Answer)
    → cond a (Some stops.Character) (cond b (Some stops.Minus) (stop_by (missing_in o) x)) ≡ Some stops.OtherWeekday
    → IsOther x
stop_if true b o x e = absurd (cc)
stop_if false true o x e = absurd (cc)
stop_if false false o (OtherWeekday _ _ _) e = tt
stop_if false false o Stays e = absurd (missing_in_never o e)
stop_if false false o NoSuchYear e = absurd (cc)
stop_if false false o Refused e = absurd (cc)
stop_if false false o (Date _ _ _) e = absurd (cc)
stop_if false false o (RomanDate _ _ _ _) e = absurd (cc)

stops_so : (choice : Choice) (calendar : Calendar) (names : List Name) (text : List ℕ)
    → stop_in choice calendar names text ≡ Some stops.OtherWeekday → SaysOtherWeekday choice calendar names text
unfolding stop_in
stops_so choice calendar names text e =
    says_other choice calendar names text
    (stop_if (has_other (tokens 0 text)) (has_minus (tokens 0 text) || begins_with_dash (bare (tokens 0 text)))
    (found_items calendar names text) (answer choice calendar names text) e)

pub other_weekdays_stop : OtherWeekdaysStop
unfolding stop
other_weekdays_stop choice calendar names text e =
    stops_so choice calendar names (without_time choice calendar names text) e
