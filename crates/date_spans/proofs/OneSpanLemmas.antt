-- A text has one span.
use Rattle.std.proofs.Common.{◌≡◌, ℕ, Bool, true, false, List, ◌||◌, refl, sym, subst, ap, ◌∙◌, arith, ℤ, ◌+ℤ◌}
use Rattle.std.specs.Prelude.{Option, Some, None}
use Rattle.day_numbers.proofs.DateLemmas.{ymd_same}
use Rattle.day_numbers.proofs.SignedArithmeticLemmas.{signed_arith}
use Rattle.day_numbers.specs.declared.ymd.Ymd.{Ymd}
use Rattle.date_texts.specs.Calendars.{day_number_by, reckoning}
use Rattle.date_texts.specs.Laws.{OneCell}
use Rattle.date_texts.specs.declared.calendar.Calendar.{Calendar}
use Rattle.date_texts.specs.declared.calendar.Calendar.TheVariants.{Gregorian, Julian}
use Rattle.date_texts.specs.declared.target.Target.TheVariants.{Date as DateTarget}
use Rattle.written_dates.specs.declared.calendars.Form.{Form}
use Rattle.written_dates.specs.declared.calendars.Form.TheVariants as forms
use Rattle.written_dates.specs.declared.meanings.Name.{Name}
use Rattle.written_dates.specs.declared.written.Choice.{Choice}
use Rattle.written_dates.specs.Calendars.{form}
use Rattle.date_spans.specs.declared.ends.Numbers.{Numbers}
use Rattle.date_spans.specs.declared.ends.Side.{Side}
use Rattle.date_spans.specs.declared.ends.Side.TheVariants as sides
use Rattle.date_spans.specs.declared.sayings.Said.{Said}
use Rattle.date_spans.specs.declared.sayings.Said.TheVariants as sayings
use Rattle.date_spans.specs.declared.spans.Marks.{Marks}
use Rattle.date_spans.specs.Brackets.{without_brackets}
use Rattle.date_spans.specs.Ends.{AreDates, AreEnds, HasDay, IfBeside, IfInOrder, IsBeside, IsNear, IsTurned, behind}
use Rattle.date_spans.specs.Ends.{first_of, in_order, last_of, no_day, no_first, no_last, of_day, past, step, there}
use Rattle.date_spans.specs.Laws.{SpansAreOne}
use Rattle.date_spans.specs.Spans.{AreEndsOf, IsCivilSpan, IsInferred, IsPlainSpan, IsSpanByForm, IsSpanOfText}
use Rattle.date_spans.specs.Spans.{has_about, inferred, is_date, is_read, kept_of, marks_of, said, said_in, unsaid}
use Rattle.date_spans.specs.Spans.{IsDayOrText, IsInStyles}
use Rattle.date_spans.specs.Sides.{words_in}
use Rattle.date_spans.specs.Styles.{IsOfBoth, IsOneDay, IsOwnDay, no_gregorian, no_julian, one_day as both_one}
use Rattle.date_spans.specs.Styles.{own_style, styles_in, two_days}

-- ---- one day of a date, and one text of the day beside it
one_day : (calendar : Calendar) (date : Numbers) (n k : ℤ) → HasDay calendar date n → HasDay calendar date k → n ≡ k
one_day calendar date n k h g =
    let same : h.ymd ≡ g.ymd
    = ymd_same h.ymd g.ymd (h.year_is ∙ sym g.year_is) (h.month_is ∙ sym g.month_is) (h.day_is ∙ sym g.day_is) in
    sym h.number ∙ ap (λ (d : Ymd). day_number_by (reckoning calendar) d) same ∙ g.number

one_near : OneCell → (calendar : Calendar) (n : ℤ) (x y : List ℕ) → IsNear calendar n x → IsNear calendar n y → x ≡ y
one_near one calendar n x y (there h c) (there g d) = one (DateTarget calendar) n x y c d
one_near one calendar n x y (there h c) (past none e) = absurd (none h)
one_near one calendar n x y (past none e) (there h c) = absurd (none h)
one_near one calendar n x y (past none e) (past never f) = e ∙ sym f

one_beside : OneCell → (calendar : Calendar) (side : Side) (date : Numbers) (x y : List ℕ)
    → IsBeside calendar side date x → IsBeside calendar side date y → x ≡ y
one_beside one calendar side date x y (of_day n h near) (of_day k g close) =
    one_near one calendar (k +ℤ step side) x y
    (subst (λ (z : ℤ). IsNear calendar (z +ℤ step side) x) (one_day calendar date n k h g) near) close
one_beside one calendar side date x y (of_day n h near) (no_day none e) = absurd (none n h)
one_beside one calendar side date x y (no_day none e) (of_day n h near) = absurd (none n h)
one_beside one calendar side date x y (no_day none e) (no_day never f) = e ∙ sym f

one_if_beside : OneCell → (calendar : Calendar) (side : Side) (date : Option Numbers) (x y : List ℕ)
    → IfBeside calendar side date x → IfBeside calendar side date y → x ≡ y
one_if_beside one calendar side None x y h g = h ∙ sym g
one_if_beside one calendar side (Some date) x y h g = one_beside one calendar side date x y h g

-- ---- two dates are turned or not
not_both : (calendar : Calendar) (a b : Numbers) → IsTurned calendar a b true → IsTurned calendar a b false → ⊥
not_both calendar a b (behind n k h g lt) (in_order m j i f le) =
    omega (arith, signed_arith, lt, le, one_day calendar a n m h i, one_day calendar b k j g f)
not_both calendar a b (behind n k h g lt) (no_first none) = none n h
not_both calendar a b (behind n k h g lt) (no_last none) = none k g

-- two first days, two last ones and what is said beside them
abbrev Same : {A : Type 0} → List ℕ × List ℕ × A → List ℕ × List ℕ × A → Type 0
Same x y = (x.0 ≡ y.0) × (x.1 ≡ y.1) × (x.2 ≡ y.2)

one_order : (calendar : Calendar) (a b : Numbers) (text : List ℕ) (x y : List ℕ × List ℕ × Bool)
    → AreDates calendar a b text x.0 x.1 x.2 → AreDates calendar a b text y.0 y.1 y.2 → Same x y
one_order calendar a b text (first, last, true) (begin, end, true) h g = (h.1 ∙ sym g.1, h.2 ∙ sym g.2, refl)
one_order calendar a b text (first, last, false) (begin, end, false) h g = (h.1 ∙ sym g.1, h.2 ∙ sym g.2, refl)
one_order calendar a b text (first, last, true) (begin, end, false) h g = absurd (not_both calendar a b h.0 g.0)
one_order calendar a b text (first, last, false) (begin, end, true) h g = absurd (not_both calendar a b g.0 h.0)

one_if_order : (calendar : Calendar) (a b : Option Numbers) (text : List ℕ) (x y : List ℕ × List ℕ × Bool)
    → IfInOrder calendar a b text x.0 x.1 x.2 → IfInOrder calendar a b text y.0 y.1 y.2 → Same x y
one_if_order calendar (Some a) (Some b) text x y h g = one_order calendar a b text x y h g
one_if_order calendar (Some a) None text x y h g = (h.0 ∙ sym g.0, h.1 ∙ sym g.1, h.2 ∙ sym g.2)
one_if_order calendar None b text x y h g = (h.0 ∙ sym g.0, h.1 ∙ sym g.1, h.2 ∙ sym g.2)

one_ends : OneCell → (choice : Choice) (calendar : Calendar) (text : List ℕ) (saying : Said)
    (x y : List ℕ × List ℕ × Bool)
    → AreEnds choice calendar text saying x.0 x.1 x.2 → AreEnds choice calendar text saying y.0 y.1 y.2 → Same x y
one_ends one choice calendar text (sayings.One e) x y h g = (h.0 ∙ sym g.0, h.1 ∙ sym g.1, h.2 ∙ sym g.2)
one_ends one choice calendar text (sayings.Range a b) x y h g =
    one_if_order calendar (first_of choice calendar a) (last_of choice calendar b) text x y h g
one_ends one choice calendar text (sayings.Between a b) x y h g =
    one_if_order calendar (first_of choice calendar a) (last_of choice calendar b) text x y h g
one_ends one choice calendar text (sayings.Before e) x y h g = (
  h.0 ∙ sym g.0,
  one_if_beside one calendar sides.Before (first_of choice calendar e) x.1 y.1 h.1 g.1,
  h.2 ∙ sym g.2,
)
one_ends one choice calendar text (sayings.After e) x y h g = (
  one_if_beside one calendar sides.After (last_of choice calendar e) x.0 y.0 h.0 g.0,
  h.1 ∙ sym g.1,
  h.2 ∙ sym g.2,
)
one_ends one choice calendar text (sayings.From e) x y h g = (h.0 ∙ sym g.0, h.1 ∙ sym g.1, h.2 ∙ sym g.2)
one_ends one choice calendar text (sayings.Until e) x y h g = (h.0 ∙ sym g.0, h.1 ∙ sym g.1, h.2 ∙ sym g.2)
one_ends one choice calendar text sayings.Undated x y h g = (h.0 ∙ sym g.0, h.1 ∙ sym g.1, h.2 ∙ sym g.2)

-- ---- a day in both styles
one_of_two : (a b : Numbers) (x y : Option Numbers) → IsOneDay a b x → IsOneDay a b y → x ≡ y
one_of_two a b x y (both_one n h g) (both_one k i f) = refl
one_of_two a b x y (both_one n h g) (two_days k m i f other) =
    absurd (other (sym (one_day Julian a n k h i) ∙ one_day Gregorian b n m g f))
one_of_two a b x y (both_one n h g) (no_julian none) = absurd (none n h)
one_of_two a b x y (both_one n h g) (no_gregorian none) = absurd (none n g)
one_of_two a b x y (two_days n k h g other) (both_one m i f) =
    absurd (other (one_day Julian a n m h i ∙ sym (one_day Gregorian b k m g f)))
one_of_two a b x y (no_julian none) (both_one k i f) = absurd (none k i)
one_of_two a b x y (no_gregorian none) (both_one k i f) = absurd (none k f)
one_of_two a b x y (two_days n k h g other) (two_days m j i f unlike) = refl
one_of_two a b x y (two_days n k h g other) (no_julian none) = refl
one_of_two a b x y (two_days n k h g other) (no_gregorian none) = refl
one_of_two a b x y (no_julian none) (two_days m j i f unlike) = refl
one_of_two a b x y (no_julian none) (no_julian never) = refl
one_of_two a b x y (no_julian none) (no_gregorian never) = refl
one_of_two a b x y (no_gregorian none) (two_days m j i f unlike) = refl
one_of_two a b x y (no_gregorian none) (no_julian never) = refl
one_of_two a b x y (no_gregorian none) (no_gregorian never) = refl

one_of_both : (two : Option (Numbers × Numbers)) (x y : Option Numbers) → IsOfBoth two x → IsOfBoth two y → x ≡ y
one_of_both None x y h g = h ∙ sym g
one_of_both (Some two) x y h g = one_of_two two.0 two.1 x y h g

one_own_day : (choice : Choice) (calendar : Calendar) (names : List Name) (text : List ℕ) (x y : Option Numbers)
    → IsOwnDay choice calendar names text x → IsOwnDay choice calendar names text y → x ≡ y
one_own_day choice calendar names text x y (day, both, own) (other, of_both, owned) =
    own ∙ ap (own_style calendar (styles_in choice calendar names text))
    (one_of_both (styles_in choice calendar names text) day other both of_both) ∙ sym owned

one_or_text : (day : Option Numbers) (text : List ℕ) (kept : List ℕ × Bool × Bool) (x y : List ℕ × List ℕ × Marks)
    → IsDayOrText day text kept x.0 x.1 x.2 → IsDayOrText day text kept y.0 y.1 y.2 → Same x y
one_or_text None text kept x y h g = (h.0 ∙ sym g.0, h.1 ∙ sym g.1, h.2 ∙ sym g.2)
one_or_text (Some day) text kept x y h g = (h.0 ∙ sym g.0, h.1 ∙ sym g.1, h.2 ∙ sym g.2)

one_in_styles : (choice : Choice) (calendar : Calendar) (names : List Name) (text : List ℕ)
    (kept : List ℕ × Bool × Bool) (x y : List ℕ × List ℕ × Marks)
    → IsInStyles choice calendar names text kept x.0 x.1 x.2 → IsInStyles choice calendar names text kept y.0 y.1 y.2
    → Same x y
one_in_styles choice calendar names text kept x y (day, own, is) (other, owned, are) =
    one_or_text other text kept x y
    (subst (λ (d : Option Numbers). IsDayOrText d text kept x.0 x.1 x.2)
    (one_own_day choice calendar names kept.0 day other own owned) is) are

-- ---- one span
one_of_said : OneCell → (choice : Choice) (calendar : Calendar) (names : List Name) (text : List ℕ)
    (kept : List ℕ × Bool × Bool) (saying : Option Said) (x y : List ℕ × List ℕ × Marks)
    → AreEndsOf choice calendar names text kept saying x.0 x.1 x.2
    → AreEndsOf choice calendar names text kept saying y.0 y.1 y.2 → Same x y
one_of_said one choice calendar names text kept None x y h g = one_in_styles choice calendar names text kept x y h g
one_of_said one choice calendar names text kept (Some saying) x y h g =
    let same = one_ends one choice calendar text saying (x.0, x.1, h.0) (y.0, y.1, g.0) h.1 g.1 in (
      same.0,
      same.1,
      h.2
          ∙ ap (λ (t : Bool). marks_of saying t (kept.2 || has_about (words_in calendar names kept.0)) kept.1) same.2
          ∙ sym g.2,
    )

one_of_text : OneCell → (choice : Choice) (calendar : Calendar) (names : List Name) (text : List ℕ)
    (kept : List ℕ × Bool × Bool) (x y : List ℕ × List ℕ × Marks) (date : Bool)
    → IsSpanOfText choice calendar names text kept x.0 x.1 x.2 date
    → IsSpanOfText choice calendar names text kept y.0 y.1 y.2 date → Same x y
one_of_text one choice calendar names text kept x y true h g = (h.0 ∙ sym g.0, h.1 ∙ sym g.1, h.2 ∙ sym g.2)
one_of_text one choice calendar names text kept x y false h g =
    one_of_said one choice calendar names text kept (said_in choice calendar names kept.0) x y h g

one_plain : OneCell → (choice : Choice) (calendar : Calendar) (names : List Name) (text : List ℕ)
    (x y : List ℕ × List ℕ × Marks) → IsPlainSpan choice calendar names text x.0 x.1 x.2
    → IsPlainSpan choice calendar names text y.0 y.1 y.2 → Same x y
one_plain one choice calendar names text x y h g =
    one_of_text one choice calendar names text (kept_of choice calendar names text) x y
    (is_date choice calendar names (kept_of choice calendar names text).0) h g

not_unread : (a b : Marks) → a ≡ b → is_read a.kind ≡ true → is_read b.kind ≡ false → ⊥
not_unread a b same reads none = never (sym reads ∙ ap (λ (m : Marks). is_read m.kind) same ∙ none)
  where
    never : true ≡ false → ⊥
    never e = cc

one_inferred : OneCell → (choice : Choice) (calendar : Calendar) (names : List Name) (text bare : List ℕ)
    (x y : List ℕ × List ℕ × Marks) → IsInferred choice calendar names text bare x.0 x.1 x.2
    → IsInferred choice calendar names text bare y.0 y.1 y.2 → Same x y
one_inferred one choice calendar names text bare x y (said plain is span e) (said other reads found f) =
    let same = one_plain one choice calendar names bare (x.0, x.1, plain) (y.0, y.1, other) span found in
    (same.0, same.1, e ∙ ap inferred same.2 ∙ sym f)
one_inferred one choice calendar names text bare x y (said plain is span e) (unsaid a b other none found i j k) =
    let same = one_plain one choice calendar names bare (x.0, x.1, plain) (a, b, other) span found in
    absurd (not_unread plain other same.2 is none)
one_inferred one choice calendar names text bare x y (unsaid a b other none found i j k) (said plain is span e) =
    let same = one_plain one choice calendar names bare (y.0, y.1, plain) (a, b, other) span found in
    absurd (not_unread plain other same.2 is none)
one_inferred one choice calendar names text bare x y (unsaid a b p is span i j k) (unsaid c d q none found l m n) =
    (i ∙ sym l, j ∙ sym m, k ∙ sym n)

one_civil : OneCell → (choice : Choice) (calendar : Calendar) (names : List Name) (text : List ℕ)
    (bare : Option (List ℕ)) (x y : List ℕ × List ℕ × Marks)
    → IsCivilSpan choice calendar names text bare x.0 x.1 x.2
    → IsCivilSpan choice calendar names text bare y.0 y.1 y.2 → Same x y
one_civil one choice calendar names text None x y h g = one_plain one choice calendar names text x y h g
one_civil one choice calendar names text (Some bare) x y h g = one_inferred one choice calendar names text bare x y h g

one_by_form : OneCell → (f : Form) (choice : Choice) (calendar : Calendar) (names : List Name) (text : List ℕ)
    (x y : List ℕ × List ℕ × Marks) → IsSpanByForm f choice calendar names text x.0 x.1 x.2
    → IsSpanByForm f choice calendar names text y.0 y.1 y.2 → Same x y
one_by_form one forms.Civil choice calendar names text x y h g =
    one_civil one choice calendar names text (without_brackets text) x y h g
one_by_form one forms.Roman choice calendar names text x y h g = (h.0 ∙ sym g.0, h.1 ∙ sym g.1, h.2 ∙ sym g.2)
one_by_form one forms.Other choice calendar names text x y h g = (h.0 ∙ sym g.0, h.1 ∙ sym g.1, h.2 ∙ sym g.2)

pub spans_are_one : OneCell → SpansAreOne
spans_are_one one choice None names text first last begin end found marked h g =
    (h.0 ∙ sym g.0, h.1 ∙ sym g.1, h.2 ∙ sym g.2)
spans_are_one one choice (Some calendar) names text first last begin end found marked h g =
    one_by_form one (form calendar) choice calendar names text (first, last, found) (begin, end, marked) h g
