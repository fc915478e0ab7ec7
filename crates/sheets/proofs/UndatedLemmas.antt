-- A text that says that no date is known has an empty first end, so that nothing stops it.
use Rattle.std.proofs.Common.{◌≡◌, ◌∙◌, ◌&&◌, ◌||◌, ℕ, ℤ, Bool, true, false, List, [], None, Option, Some, ap, get_or}
use Rattle.std.proofs.Common.{not, option_map, refl, sym}
use Rattle.sheets.proofs.Common.{Calendar, calendar_of, CalendarMeaning, Name, meaning_for, AreEndsIn}
use Rattle.sheets.proofs.Common.{DateStop, IsStopBy, DateColumn, SheetChoice, Fields}
use Rattle.date_spans.specs.Brackets.{without_brackets}
use Rattle.date_spans.specs.Ends.{AreEnds as AreEndsSaid}
use Rattle.date_spans.specs.Sayings.{kind_of}
use Rattle.date_spans.specs.declared.ends.Numbers.{Numbers}
use Rattle.date_spans.specs.Spans.{AreEndsOf, IsCivilSpan, IsDayOrText, IsInferred, IsPlainSpan, IsSpanByForm}
use Rattle.date_spans.specs.Spans.{IsSpanOfText, has_about, is_date, kept_of, marks_of, said, said_in, unsaid}
use Rattle.date_spans.specs.Sides.{words_in}
use Rattle.date_spans.specs.declared.sayings.Kind.{Kind}
use Rattle.date_spans.specs.declared.sayings.Kind.TheVariants as kinds
use Rattle.date_spans.specs.declared.sayings.Said.{Said}
use Rattle.date_spans.specs.declared.sayings.Said.TheVariants as sayings
use Rattle.date_spans.specs.declared.spans.Marks.{Marks}
use Rattle.written_dates.specs.Calendars.{form}
use Rattle.written_dates.specs.Fields.{without_blanks}
use Rattle.written_dates.specs.Tokens.{tokens}
use Rattle.written_dates.specs.declared.calendars.Form.{Form}
use Rattle.written_dates.specs.declared.calendars.Form.TheVariants as forms
use Rattle.written_dates.specs.declared.fields.CalendarMeaning.TheVariants.{Both, Changed, One}
use Rattle.written_dates.specs.declared.written.Choice.{Choice}
use Rattle.sheets.specs.CalendarChanges.{EndText, IsAtChange, before}
use Rattle.sheets.specs.Choices.{date_text}
use Rattle.sheets.specs.DateEnds.{AreEndsBy, marks_at_change}
use Rattle.sheets.specs.DateStops.{IsStopIn}
use Rattle.sheets.specs.UndatedLaws.{UndatedIsNotUnread}
use Rattle.sheets.specs.UnknownNames.{is_emptied, says_open}
use Rattle.sheets.specs.declared.choices.Spans.{Spans}
use Rattle.sheets.specs.declared.choices.Spans.TheVariants as spans

-- ---- the kind of marks
kind_as : (a b : Marks) → a ≡ b → a.kind ≡ kinds.Undated → b.kind ≡ kinds.Undated
kind_as a b same kind = sym (ap (λ (m : Marks). m.kind) same) ∙ kind

no_one : kinds.One ≡ kinds.Undated → ⊥
no_one e = cc

no_unread : kinds.Unread ≡ kinds.Undated → ⊥
no_unread e = cc

-- ---- what is said
of_saying : (choice : Choice) (calendar : Calendar) (text : List ℕ) (saying : Said) (first last : List ℕ)
    (turned : Bool) → AreEndsSaid choice calendar text saying first last turned → kind_of saying ≡ kinds.Undated → first ≡ []
of_saying choice calendar text sayings.Undated first last turned h kind = h.0
of_saying choice calendar text saying first last turned h kind = absurd (cc)

of_turned : (choice : Choice) (calendar : Calendar) (text : List ℕ) (saying : Said) (first last : List ℕ)
    (turned about uncertain : Bool) → AreEndsSaid choice calendar text saying first last turned
    → (marks_of saying turned about uncertain).kind ≡ kinds.Undated → first ≡ []
of_turned choice calendar text saying first last true about uncertain h kind = absurd (no_unread kind)
of_turned choice calendar text saying first last false about uncertain h kind =
    of_saying choice calendar text saying first last false h kind

no_day_undated : (day : Option Numbers) (text : List ℕ) (kept : List ℕ × Bool × Bool) (first last : List ℕ)
    (found : Marks) → IsDayOrText day text kept first last found → found.kind ≡ kinds.Undated → ⊥
no_day_undated None text kept first last found h kind = no_unread (kind_as _ _ h.2 kind)
no_day_undated (Some day) text kept first last found h kind = no_one (kind_as _ _ h.2 kind)

of_said : (choice : Choice) (calendar : Calendar) (names : List Name) (text : List ℕ) (kept : List ℕ × Bool × Bool)
    (saying : Option Said) (first last : List ℕ) (found : Marks)
    → AreEndsOf choice calendar names text kept saying first last found → found.kind ≡ kinds.Undated → first ≡ []
of_said choice calendar names text kept None first last found (day, own, is) kind =
    absurd (no_day_undated day text kept first last found is kind)
of_said choice calendar names text kept (Some saying) first last found h kind =
    of_turned choice calendar text saying first last h.0 (kept.2 || has_about (words_in calendar names kept.0)) kept.1
    h.1 (kind_as _ _ h.2 kind)

-- ---- a span
of_text : (choice : Choice) (calendar : Calendar) (names : List Name) (text : List ℕ) (kept : List ℕ × Bool × Bool)
    (first last : List ℕ) (found : Marks) (date : Bool)
    → IsSpanOfText choice calendar names text kept first last found date → found.kind ≡ kinds.Undated → first ≡ []
of_text choice calendar names text kept first last found true h kind = absurd (no_one (kind_as _ _ h.2 kind))
of_text choice calendar names text kept first last found false h kind =
    of_said choice calendar names text kept (said_in choice calendar names kept.0) first last found h kind

of_plain : (choice : Choice) (calendar : Calendar) (names : List Name) (text first last : List ℕ) (found : Marks)
    → IsPlainSpan choice calendar names text first last found → found.kind ≡ kinds.Undated → first ≡ []
of_plain choice calendar names text first last found h kind =
    of_text choice calendar names text (kept_of choice calendar names text) first last found
    (is_date choice calendar names (kept_of choice calendar names text).0) h kind

of_inferred : (choice : Choice) (calendar : Calendar) (names : List Name) (text bare first last : List ℕ)
    (found : Marks) → IsInferred choice calendar names text bare first last found → found.kind ≡ kinds.Undated → first ≡ []
of_inferred choice calendar names text bare first last found (said plain is span e) kind =
    of_plain choice calendar names bare first last plain span (kind_as _ _ e kind)
of_inferred choice calendar names text bare first last found (unsaid a b plain none span f l e) kind =
    absurd (no_unread (kind_as _ _ e kind))

of_civil : (choice : Choice) (calendar : Calendar) (names : List Name) (text : List ℕ) (bare : Option (List ℕ))
    (first last : List ℕ) (found : Marks) → IsCivilSpan choice calendar names text bare first last found
    → found.kind ≡ kinds.Undated → first ≡ []
of_civil choice calendar names text None first last found h kind =
    of_plain choice calendar names text first last found h kind
of_civil choice calendar names text (Some bare) first last found h kind =
    of_inferred choice calendar names text bare first last found h kind

by_form : (f : Form) (choice : Choice) (calendar : Calendar) (names : List Name) (text first last : List ℕ)
    (found : Marks) → IsSpanByForm f choice calendar names text first last found → found.kind ≡ kinds.Undated
    → first ≡ []
by_form forms.Civil choice calendar names text first last found h kind =
    of_civil choice calendar names text (without_brackets text) first last found h kind
by_form other choice calendar names text first last found h kind = absurd (no_one (kind_as _ _ h.2 kind))

-- ---- the ends of a date of a sheet: they are in a calendar
of_ends : (kind : Spans) (reading : Choice) (calendar : Calendar) (names : List Name) (field first last : List ℕ)
    (found : Marks) → AreEndsBy kind reading (Some calendar) names field first last found
    → found.kind ≡ kinds.Undated → first ≡ []
of_ends spans.Unread reading calendar names field first last found h is = absurd (no_one (kind_as _ _ h.2 is))
of_ends kind reading calendar names field first last found h is =
    by_form (form calendar) reading calendar names field first last found h is

in_none : (kind : Spans) (reading : Choice) (names : List Name) (field first last : List ℕ) (found : Marks)
    → AreEndsBy kind reading None names field first last found → found.kind ≡ kinds.Undated → ⊥
in_none spans.Unread reading names field first last found h is = no_one (kind_as _ _ h.2 is)
in_none kind reading names field first last found h is = no_unread (kind_as _ _ h.2 is)

at_change : (from : ℤ) (julian gregorian : List ℕ) (first : EndText) (old new found : Marks)
    → IsAtChange from julian gregorian first → found ≡ marks_at_change first.calendar old new
    → found.kind ≡ kinds.Undated → (old.kind ≡ kinds.Undated → julian ≡ [])
    → (new.kind ≡ kinds.Undated → gregorian ≡ []) → first.text ≡ []
at_change from julian gregorian first old new found (before is) marks kind in_old in_new =
    in_old (kind_as _ _ marks kind)
at_change from julian gregorian first old new found other marks kind in_old in_new =
    in_new (kind_as _ _ marks kind)

first_of : (meant : CalendarMeaning) (kind : Spans) (reading : Choice) (names : List Name) (field : List ℕ)
    (first last : EndText) (found : Marks) → AreEndsIn (Some meant) kind reading names field first last found
    → found.kind ≡ kinds.Undated → first.text ≡ []
first_of (One calendar) kind reading names field first last found h is =
    of_ends kind reading calendar names field first.text last.text found h.1 is
first_of Both kind reading names field first last found (of_record, both, same, marks) is =
    absurd (no_one (kind_as _ _ marks is))
first_of (Changed from) kind reading names field first last found h is =
    at_change from h.old_first h.new_first first h.old_marks h.new_marks found h.first_is h.marks_are is
    (of_ends kind reading _ names field h.old_first h.old_last h.old_marks h.julian)
    (of_ends kind reading _ names field h.new_first h.new_last h.new_marks h.gregorian)

-- ---- what stops it
of_empty : (field : List ℕ) → field ≡ [] → without_blanks field ≡ []
unfolding without_blanks tokens
of_empty field is = ap without_blanks is

no_stop_in : (reading : Choice) (calendar : Calendar) (names : List Name) (field date : List ℕ) (stop : Option DateStop)
    → IsStopIn reading calendar names field date stop → date ≡ [] → stop ≡ None
no_stop_in reading calendar names field date stop h empty =
    h.other (λ written. written.some (of_empty field (sym written.stays ∙ empty)))

no_stop : (meant : Option CalendarMeaning) (choice : SheetChoice) (column : DateColumn) (fields : Fields)
    (first last : EndText) (found : Marks) (stop : Option DateStop)
    → AreEndsIn meant choice.spans choice.reading choice.names.now.listed.now (date_text choice column fields)
    first last found → found.kind ≡ kinds.Undated
    → IsStopBy choice column fields first.text (option_map calendar_of meant) stop → stop ≡ None
no_stop None choice column fields first last found stop ends kind h =
    absurd (in_none choice.spans choice.reading choice.names.now.listed.now (date_text choice column fields)
    first.text last.text found ends.1 kind)
no_stop (Some meant) choice column fields first last found stop ends kind h =
    no_stop_in choice.reading (calendar_of meant) choice.names.now.listed.now (date_text choice column fields)
    first.text stop h
    (first_of meant choice.spans choice.reading choice.names.now.listed.now (date_text choice column fields) first last
    found ends kind)

-- no short year either
no_short : (a b : Bool) (kind : Kind) → kind ≡ kinds.Undated → (a && b && not (says_open kind)) ≡ false
no_short true true kind is = ap (λ (k : Kind). not (says_open k)) is
no_short a b kind is = refl

pub undated_is_not_unread : UndatedIsNotUnread
undated_is_not_unread choice date first last found stop ends kind stopped =
    let field = get_or date.1 date.0.date [] in (
      no_stop (meaning_for choice date.0 date.1) choice date.0 date.1 first last found stop ends kind stopped,
      no_short (is_emptied field first.text) (is_emptied field last.text) found.kind kind,
    )
