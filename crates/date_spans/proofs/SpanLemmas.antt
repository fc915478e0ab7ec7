-- What is read today is its own span.
use Rattle.std.proofs.Common.{◌≡◌, ℕ, Bool, true, false, List, ◌&&◌, ◌||◌, refl, subst, ap, sym, ◌∙◌}
use Rattle.std.specs.Prelude.{Option, Some, None, is_some, not}
use Rattle.date_texts.specs.declared.calendar.Calendar.{Calendar}
use Rattle.written_dates.specs.declared.calendars.Form.{Form}
use Rattle.written_dates.specs.declared.calendars.Form.TheVariants.{Civil}
use Rattle.written_dates.specs.declared.meanings.Name.{Name}
use Rattle.written_dates.specs.declared.written.Choice.{Choice}
use Rattle.written_dates.specs.Calendars.{form}
use Rattle.written_dates.specs.Signs.{three_runs, runs_behind_minus}
use Rattle.written_dates.specs.Tokens.{tokens}
use Rattle.written_dates.specs.Written.{answer, answer_text, dated_text, is_dated, is_found, joined, numbers}
use Rattle.written_dates.specs.Written.{stood as stood_date, unless_turned, written, written_by}
use Rattle.written_dates.proofs.StoodLemmas.{stood_at_once}
use Rattle.written_dates.proofs.TimeLemmas.{dated_before, dated_whole, read_dated, stands_dated}
use Rattle.date_spans.specs.declared.spans.Marks.{Marks}
use Rattle.std.specs.List.{list_any}
use Rattle.date_spans.specs.private.CutViews.{is_slash_byte}
use Rattle.date_spans.specs.Cuts.{unmarked}
use Rattle.date_spans.proofs.CutLemmas.{no_sides}
use Rattle.date_spans.specs.Laws.{DatesAreTheirOwnSpans, IsReadToday, RegisterDatesAreTheirOwnSpans, StandsToday}
use Rattle.date_spans.specs.Laws.{BracketsKeepSpans, TimesChangeNoSpan}
use Rattle.date_spans.specs.Spans.{IsCivilSpan, IsInferred, IsPlainSpan, IsSpan, IsSpanByForm, IsSpanOfText, inferred}
use Rattle.date_spans.specs.Spans.{is_date, is_dual, is_known, is_read, kept_of, marks, said, stands, unsaid}
use Rattle.date_spans.specs.Brackets.{without_brackets}
use Rattle.date_spans.specs.declared.sayings.Kind.TheVariants as kinds
use Rattle.date_spans.proofs.BareLemmas.{no_brackets}
use Rattle.date_spans.proofs.BareTimeLemmas.{no_brackets_before}
use Rattle.date_spans.proofs.BracketLemmas.{left_bare, unbracketed}

date_of : (d s r : Bool) → d ≡ false → (s || r) ≡ true → (not d && (s || r)) ≡ true
date_of d s r e f = rw (e, f) refl

either_read : (s r : Bool) → r ≡ true → (s || r) ≡ true
either_read true r e = refl
either_read false r e = e

either_stands : (a b : Bool) → b ≡ true → (a || b) ≡ true
either_stands true b e = refl
either_stands false b e = e

first_of_two : (s r : Bool) → s ≡ true → (s || r) ≡ true
first_of_two s r e = rw e refl

some_is : {A : Type 0} (o : Option A) (x : A) → o ≡ Some x → is_some o ≡ true
some_is o x e = ap is_some e

by_form : (f : Form) (choice : Choice) (calendar : Calendar) (names : List Name) (text first last : List ℕ) (found : Marks)
    → f ≡ Civil → IsSpanByForm f choice calendar names text first last found
    → IsCivilSpan choice calendar names text (without_brackets text) first last found
by_form f choice calendar names text first last found e h =
    subst (λ (g : Form). IsSpanByForm g choice calendar names text first last found) e h

plain_span : (choice : Choice) (calendar : Calendar) (names : List Name) (text first last : List ℕ) (found : Marks)
    → without_brackets text ≡ None → IsCivilSpan choice calendar names text (without_brackets text) first last found
    → IsPlainSpan choice calendar names text first last found
plain_span choice calendar names text first last found e h =
    subst (λ (x : Option (List ℕ)). IsCivilSpan choice calendar names text x first last found) e h

abbrev AreWritten : Choice → Calendar → List Name → List ℕ → List ℕ → List ℕ → Type 0
AreWritten choice calendar names kept first last =
    (first ≡ written choice (Some calendar) names kept) × (last ≡ written choice (Some calendar) names kept)

where_date : (choice : Choice) (calendar : Calendar) (names : List Name) (text first last : List ℕ) (found : Marks)
    (kept : List ℕ × Bool × Bool) (b : Bool) → b ≡ true
    → IsSpanOfText choice calendar names text kept first last found b
    → AreWritten choice calendar names kept.0 first last
where_date choice calendar names text first last found kept true e h = (h.0, h.1)
where_date choice calendar names text first last found kept false e h = absurd (not_true e)
  where
    not_true : false ≡ true → ⊥
    not_true e = cc

-- of a text that is read as this date
of_date : (choice : Choice) (calendar : Calendar) (names : List Name) (text date first last : List ℕ) (found : Marks)
    → form calendar ≡ Civil → IsSpan choice (Some calendar) names text first last found → without_brackets text ≡ None
    → dated_text choice calendar names (unmarked text).0 ≡ date → is_date choice calendar names date ≡ true
    → AreWritten choice calendar names date first last
of_date choice calendar names text date first last found civil span bare same is =
    subst (λ (x : List ℕ). AreWritten choice calendar names x first last) same
    (where_date choice calendar names text first last found (kept_of choice calendar names text)
    (is_date choice calendar names (kept_of choice calendar names text).0)
    (subst (λ (x : List ℕ). is_date choice calendar names x ≡ true) (sym same) is)
    (plain_span choice calendar names text first last found bare
    (by_form (form calendar) choice calendar names text first last found civil span)))

read_date : (choice : Choice) (calendar : Calendar) (names : List Name) (text : List ℕ)
    → IsReadToday choice calendar names text → is_date choice calendar names (unmarked text).0 ≡ true
unfolding is_known
read_date choice calendar names text h =
    date_of (is_dual choice calendar names (unmarked text).0) (stands choice (unmarked text).0)
    (is_found (answer choice calendar names (unmarked text).0)) h.single
    (either_read (stands choice (unmarked text).0) (is_found (answer choice calendar names (unmarked text).0)) h.reads)

standing_date : (choice : Choice) (calendar : Calendar) (names : List Name) (text : List ℕ)
    → StandsToday choice calendar names text → is_date choice calendar names (unmarked text).0 ≡ true
unfolding is_known
standing_date choice calendar names text h =
    date_of (is_dual choice calendar names (unmarked text).0) (stands choice (unmarked text).0)
    (is_found (answer choice calendar names (unmarked text).0)) h.single
    (first_of_two (stands choice (unmarked text).0) (is_found (answer choice calendar names (unmarked text).0))
    (either_stands (is_some (runs_behind_minus (tokens 0 (unmarked text).0)))
    (is_some (unless_turned choice.order (three_runs (tokens 0 (unmarked text).0))))
    (some_is (unless_turned choice.order (three_runs (tokens 0 (unmarked text).0))) h.runs h.stands)))

pub dates_stay : DatesAreTheirOwnSpans
dates_stay choice calendar names text first last found civil span h =
    let dated = read_dated choice calendar names (unmarked text).0 h.reads in
    of_date choice calendar names text (unmarked text).0 first last found civil span
    (no_brackets choice calendar names text dated) (dated_whole choice calendar names (unmarked text).0 dated)
    (read_date choice calendar names text h)

pub register_dates_stay : RegisterDatesAreTheirOwnSpans
register_dates_stay choice calendar names text first last found civil span h =
    let dated = stands_dated choice calendar names (unmarked text).0
    (some_is (unless_turned choice.order (three_runs (tokens 0 (unmarked text).0))) h.runs h.stands) in
    of_date choice calendar names text (unmarked text).0 first last found civil span
    (no_brackets choice calendar names text dated) (dated_whole choice calendar names (unmarked text).0 dated)
    (standing_date choice calendar names text h)

known_by : (a b c : Bool) → (b || c) ≡ true → ((a || b) || c) ≡ true
known_by true b c e = refl
known_by false b c e = e

known_dated : (choice : Choice) (calendar : Calendar) (names : List Name) (text : List ℕ)
    → is_dated choice calendar names text ≡ true → is_known choice calendar names text ≡ true
unfolding is_known is_dated
known_dated choice calendar names text h =
    known_by (is_some (runs_behind_minus (tokens 0 text)))
    (is_some (unless_turned choice.order (three_runs (tokens 0 text)))) (is_found (answer choice calendar names text)) h

pub times_change_no_span : TimesChangeNoSpan
times_change_no_span choice calendar names text before first last found civil span h =
    of_date choice calendar names text before first last found civil span
    (no_brackets_before choice calendar names text before h.time h.dated)
    (dated_before choice calendar names (unmarked text).0 before h.midnight h.time h.plain h.undated h.dated)
    (date_of (is_dual choice calendar names before) false (is_known choice calendar names before) h.single
    (known_dated choice calendar names before h.dated))

-- ---- what is known of a text, and what is written for it
pub stood : (choice : Choice) (calendar : Calendar) (names : List Name) (text : List ℕ)
    → stands choice text ≡ true → is_known choice calendar names text ≡ true
unfolding is_known
stood choice calendar names text h = rw h refl

pub read : (choice : Choice) (calendar : Calendar) (names : List Name) (text : List ℕ)
    → stands choice text ≡ false → is_known choice calendar names text ≡ is_found (answer choice calendar names text)
unfolding is_known
read choice calendar names text h = rw h refl

by_runs : (choice : Choice) (calendar : Calendar) (names : List Name) (text : List ℕ)
    (a b : Option (List ℕ × List ℕ × List ℕ)) → (is_some a || is_some b) ≡ false
    → written_by choice calendar names text a b ≡ answer_text text (answer choice calendar names text)
by_runs choice calendar names text None None h = refl
by_runs choice calendar names text None (Some b) h = absurd (let no : ⊥ = cc in no)
by_runs choice calendar names text (Some a) b h = absurd (let no : ⊥ = cc in no)

pub answered : (choice : Choice) (calendar : Calendar) (names : List Name) (text : List ℕ) → form calendar ≡ Civil
    → stands choice text ≡ false → is_found (answer choice calendar names text) ≡ true
    → written choice (Some calendar) names text ≡ answer_text text (answer choice calendar names text)
answered choice calendar names text e h found =
    rw (dated_whole choice calendar names text (read_dated choice calendar names text found), e)
    (by_runs choice calendar names text (runs_behind_minus (tokens 0 text))
    (unless_turned choice.order (three_runs (tokens 0 text))) h)

-- a text with a dual year is no date, nor is one that is not known
pub dual_is_no_date : (choice : Choice) (calendar : Calendar) (names : List Name) (text : List ℕ)
    → is_dual choice calendar names text ≡ true → is_date choice calendar names text ≡ false
dual_is_no_date choice calendar names text h = rw h refl

pub date_by_known : (choice : Choice) (calendar : Calendar) (names : List Name) (text : List ℕ)
    → is_dual choice calendar names text ≡ false
    → is_date choice calendar names text ≡ is_known choice calendar names text
date_by_known choice calendar names text h = rw h refl

-- a date as registers have it, without a slash, is one date, with no time of day
abbrev IsOneDate : Choice → Calendar → List Name → List ℕ → List ℕ → Type 0
IsOneDate choice calendar names text date =
    (is_date choice calendar names (dated_text choice calendar names text) ≡ true)
    × (written choice (Some calendar) names (dated_text choice calendar names text) ≡ date)

never_dual : (choice : Choice) (calendar : Calendar) (names : List Name) (text : List ℕ)
    → list_any is_slash_byte text ≡ false → is_dual choice calendar names text ≡ false
unfolding is_dual
never_dual choice calendar names text h = rw (no_sides text h) refl

pub stands_alone : (choice : Choice) (calendar : Calendar) (names : List Name) (text : List ℕ)
    (runs : List ℕ × List ℕ × List ℕ) → form calendar ≡ Civil → list_any is_slash_byte text ≡ false
    → unless_turned choice.order (three_runs (tokens 0 text)) ≡ Some runs
    → IsOneDate choice calendar names text (stood_date choice calendar (joined runs.0 runs.1 runs.2) (numbers runs))
unfolding is_known
stands_alone choice calendar names text runs civil plain stands =
    let whole = dated_whole choice calendar names text (stands_dated choice calendar names text (rw stands refl)) in (
      rw (whole, never_dual choice calendar names text plain, stands)
          (first_of_two _ _ (either_stands (is_some (runs_behind_minus (tokens 0 text))) true refl)),
      rw (whole, civil) (stood_at_once choice calendar names text runs stands),
    )

-- ---- brackets
by_bare : (choice : Choice) (calendar : Calendar) (names : List Name) (text bare first last : List ℕ) (found : Marks)
    → without_brackets text ≡ Some bare
    → IsCivilSpan choice calendar names text (without_brackets text) first last found
    → IsInferred choice calendar names text bare first last found
by_bare choice calendar names text bare first last found e h =
    subst (λ (x : Option (List ℕ)). IsCivilSpan choice calendar names text x first last found) e h

as_civil : (choice : Choice) (calendar : Calendar) (names : List Name) (bare first last : List ℕ) (plain : Marks)
    → form calendar ≡ Civil → without_brackets bare ≡ None → IsPlainSpan choice calendar names bare first last plain
    → IsSpan choice (Some calendar) names bare first last plain
as_civil choice calendar names bare first last plain civil none h =
    subst (λ (g : Form). IsSpanByForm g choice calendar names bare first last plain) (sym civil)
    (subst (λ (x : Option (List ℕ)). IsCivilSpan choice calendar names bare x first last plain) (sym none) h)

no_unread : (found : Marks) → is_read found.kind ≡ true → found ≡ marks kinds.Unread false false → ⊥
no_unread found reads e = not_read (sym (ap (λ (m : Marks). is_read m.kind) e) ∙ reads)
  where
    not_read : false ≡ true → ⊥
    not_read e = cc

of_inferred : (choice : Choice) (calendar : Calendar) (names : List Name) (text bare first last : List ℕ) (found : Marks)
    → form calendar ≡ Civil → without_brackets bare ≡ None → is_read found.kind ≡ true
    → IsInferred choice calendar names text bare first last found
    → (plain : Marks) × IsSpan choice (Some calendar) names bare first last plain × (found ≡ inferred plain)
of_inferred choice calendar names text bare first last found civil none reads (said plain is span same) =
    (plain, as_civil choice calendar names bare first last plain civil none span, same)
of_inferred choice calendar names text bare first last found civil none reads (unsaid a b plain is span e f same) =
    absurd (no_unread found reads same)

pub brackets_keep_spans : BracketsKeepSpans
brackets_keep_spans choice calendar names text bare first last found civil e span reads =
    of_inferred choice calendar names text bare first last found civil (unbracketed bare (left_bare text bare e)) reads
    (by_bare choice calendar names text bare first last found e
    (by_form (form calendar) choice calendar names text first last found civil span))
