-- Days of dates, and what is made of an answer that may be an error.
use Rattle.std.proofs.Common.{◌≡◌, ℕ, List, sym, subst, ◌∙◌, ℤ, pos, ap, true, false, ◌+ℤ◌, ◌<ℤ◌, ◌≤ℤ◌}
use Rattle.std.proofs.lemmas.Int.{by_lt_z}
use Rattle.std.specs.Prelude.{Option, Some, None, IfNone, IfOk, Result, Ok, Err, OnOk}
use Rattle.day_numbers.specs.Days.{IsDayNumber}
use Rattle.day_numbers.specs.declared.ymd.Ymd.{Ymd}
use Rattle.date_texts.specs.Calendars.{IsDateBy, day_number_by, reckoning}
use Rattle.date_texts.specs.declared.calendar.Calendar.{Calendar}
use Rattle.date_texts.specs.declared.date.CivilDate.{CivilDate}
use Rattle.date_texts.specs.Cells.{IsDateCell}
use Rattle.date_spans.specs.Ends.{HasDay, IfBeside, IsNear, there, of_day, step}
use Rattle.date_spans.specs.declared.ends.Side.{Side}
use Rattle.date_spans.specs.declared.ends.Numbers.{Numbers}

pub if_none : {A : Type 0} (r : Option A) (X : Type 0) → X → IfNone r X
if_none None X x = x
if_none (Some a) X x = tt

pub on_ok : {A E P Q : Type 0} → (P → Q) → (r : Result A E) → OnOk r P → OnOk r Q
on_ok f (Ok x) h = f h
on_ok f (Err e) h = tt

pub if_ok : {A E : Type 0} {P Q : A → Type 0} → ((x : A) → P x → Q x) → (r : Result A E) → IfOk r P → IfOk r Q
if_ok f (Ok x) h = f x h
if_ok f (Err e) h = tt

pub has_day : (calendar : Calendar) (date : Numbers) (ymd : Ymd) (civil : CivilDate) (n : ℤ)
    → ymd.year ≡ pos date.year → ymd.month ≡ date.month → ymd.day ≡ date.day
    → civil.calendar ≡ calendar → civil.ymd ≡ ymd
    → IsDateBy (reckoning civil.calendar) civil.ymd → n ≡ day_number_by (reckoning civil.calendar) civil.ymd
    → IsDayNumber n → HasDay calendar date n
has_day calendar date ymd civil n y m d e f has is inside = record {
  ymd = civil.ymd;
  year_is = ap (λ (x : Ymd). x.year) f ∙ y;
  month_is = ap (λ (x : Ymd). x.month) f ∙ m;
  day_is = ap (λ (x : Ymd). x.day) f ∙ d;
  has = subst (λ (c : Calendar). IsDateBy (reckoning c) civil.ymd) e has;
  number = ap (λ (c : Calendar). day_number_by (reckoning c) civil.ymd) (sym e) ∙ sym is;
  in_range = inside;
}

pub not_false : false ≡ true → ⊥
not_false e = cc

pub if_beside : (calendar : Calendar) (side : Side) (date : Option Numbers) (numbers : Numbers) (n : ℤ)
    → date ≡ Some numbers → HasDay calendar numbers n → (text : List ℕ) → IsNear calendar (n +ℤ step side) text
    → IfBeside calendar side date text
if_beside calendar side date numbers n e h text near = rw e (of_day n h near)

pub near_cell : (calendar : Calendar) (n k : ℤ) (bytes text : List ℕ) → k ≡ n → IsDayNumber k
    → IsDateCell calendar k bytes → text ≡ bytes → IsNear calendar n text
near_cell calendar n k bytes text e inside cell is =
    there (subst IsDayNumber e inside)
    (subst (λ (t : List ℕ). IsDateCell calendar n t) (sym is) (subst (λ (z : ℤ). IsDateCell calendar z bytes) e cell))

pub not_before : (a b : ℤ) → (a <ℤ b → false ≡ true) → b ≤ℤ a
not_before a b h = by_lt_z a b (λ lt. absurd (not_false (h lt))) (λ ge. ge)

pub same_day : (calendar : Calendar) (date : Numbers) (n k : ℤ) → n ≡ k → HasDay calendar date k
    → HasDay calendar date n
same_day calendar date n k e h = subst (λ (z : ℤ). HasDay calendar date z) (sym e) h
