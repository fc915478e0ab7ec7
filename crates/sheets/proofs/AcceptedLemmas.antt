-- A date whose row was accepted is stopped by nothing.
use Rattle.std.proofs.Common.{◌≡◌, ◌&&◌, ℕ, ℤ, Bool, true, false, List, [], ◌∷◌, None, Option, Some, cond, get_or, Err}
use Rattle.std.proofs.Common.{Ok, Result, inl, inr, is_ok, option_map, refl, subst, sym, IsSome}
use Rattle.sheets.proofs.Common.{all_calendars, calendar_name, IsNamed, Calendar, Gregorian, Refusal, Fields}
use Rattle.sheets.proofs.Common.{calendar_of, CalendarMeaning, Name, asked_targets, calendar_for, meaning_for}
use Rattle.sheets.proofs.Common.{DatedEnd, IsStopBy, DateColumn, SheetChoice}
use Rattle.std.specs.Prelude.{⊤}
use Rattle.std.specs.List.{find}
use Rattle.std.specs.Str.{is_utf8, str_to_ascii_lowercase}
use Rattle.std.proofs.lemmas.Bool.{cases_Bool}
use Rattle.std.proofs.lemmas.Slice.Eq.{bytes_eq-Decides}
use Rattle.std.proofs.lemmas.Str.{IsUtf8-from_is_utf8}
use Rattle.date_texts.specs.DateText.{IsDateText}
use Rattle.date_texts.specs.Laws.{OneCalendar}
use Rattle.date_texts.specs.Trimmed.{trimmed}
use Rattle.date_texts.specs.declared.date.Date.{Date}
use Rattle.date_texts.specs.declared.refusal.Refusal.TheVariants as refusal
use Rattle.register_records.specs.Entries.{Texts, are_short, are_utf8}
use Rattle.register_records.specs.Outcomes.{IsOutcome, IsRowOf, Says, accepted}
use Rattle.register_records.specs.Outcomes.{refused}
use Rattle.written_dates.specs.Fields.{or_field}
use Rattle.written_dates.specs.declared.fields.CalendarMeaning.TheVariants.{One}
use Rattle.written_dates.specs.declared.fields.CalendarNames.{CalendarNames}
use Rattle.written_dates.specs.declared.written.Choice.{Choice}
use Rattle.sheets.specs.Choices.{calendar_called, calendar_text, date_text, is_name, meaning_in, meant_in}
use Rattle.sheets.specs.Choices.{or_meant, own_in}
use Rattle.sheets.specs.DateStops.{IsStopIn}
use Rattle.sheets.specs.OwnCalendars.{OwnDate, or_calendar, or_meaning}
use Rattle.sheets.specs.private.DateViews.{HasDate, end_entry}
use Rattle.sheets.specs.declared.choices.CalendarField.{CalendarField}
use Rattle.sheets.specs.declared.choices.CalendarField.TheVariants as calendar

-- texts say a date where their outcome is a day
abbrev SaysOne : Texts → Type 0
SaysOne t = (calendar : Calendar) × (date : Date) × Says t.calendar t.date calendar date

says_one : (body : Result Texts Refusal) (outcome : Result ℤ Refusal) → IsOutcome body outcome → is_ok outcome ≡ true
    → (t : Texts) → body ≡ Ok t → SaysOne t
says_one (Ok u) outcome (accepted c d says is_date in_range) ok t is =
    let same : u ≡ t = cc in (c, d, subst (λ (v : Texts). Says v.calendar v.date c d) same says)
says_one body outcome other ok t is = absurd (cc)

-- they are UTF-8
body_ok : (short utf8 : Bool) (t : Texts) (outcome : Result ℤ Refusal)
    → IsOutcome (cond short (cond utf8 (Ok t) (Err refusal.NotUtf8)) (Err refusal.FieldTooLong)) outcome
    → is_ok outcome ≡ true → (utf8 ≡ true) × SaysOne t
body_ok true true t outcome h ok = (refl, says_one (Ok t) outcome h ok t refl)
body_ok short utf8 t outcome refused ok = absurd (cc)

-- the calendar that a text of a register names has the name
named_call : (test : Calendar → Bool) (text : List ℕ) (cs : List Calendar) (c : Calendar)
    → ((x : Calendar) → test x ≡ true → IsNamed text (calendar_name x)) → find test cs ≡ Some c
    → IsNamed text (calendar_name c)
named_call test text [] c passes is = absurd (cc)
named_call test text (x ∷ cs) c passes is =
    elim (cases_Bool (test x)) [
      | inl there ↦ subst (λ (y : Calendar). IsNamed text (calendar_name y)) (same_some (rw there at is)) (passes x there)
      | inr other ↦ named_call test text cs c passes (rw other at is)
    ]
  where
    same_some : Some x ≡ Some c → x ≡ c
    same_some e = cc

called_named : (text : List ℕ) (c : Calendar) → calendar_called text ≡ Some c → IsNamed text (calendar_name c)
unfolding calendar_called
called_named text c is =
    elim (cases_Bool (is_utf8 text)) [
      | inl there ↦ named_call (is_name text) text all_calendars c
          (λ x. (bytes_eq-Decides (str_to_ascii_lowercase (trimmed text)) (calendar_name x)).0) (rw there at is)
      | inr other ↦ absurd (no_call (rw other at is))
    ]
  where
    no_call : ◌≡◌ {A = Option Calendar} None (Some c) → ⊥
    no_call e = cc

-- what is meant for a record has the name that its register gets
named_itself : (c : Calendar) → IsNamed (calendar_name c) (calendar_name c)
named_itself Gregorian = refl
named_itself c = refl

abbrev pub IsSoNamed : List ℕ → Option CalendarMeaning → Type 0
IsSoNamed text None = ⊤
IsSoNamed text (Some meaning) = IsNamed text (calendar_name (calendar_of meaning))

of_field : (field : List ℕ) (meant : Option CalendarMeaning) (called : Option Calendar) → calendar_called field ≡ called
    → IsSoNamed (or_field field meant) (or_meant meant (option_map One called))
of_field field (Some meaning) called is = named_itself (calendar_of meaning)
of_field field None None is = tt
of_field field None (Some c) is = called_named field c is

pub so_named : (names : CalendarNames) (place : CalendarField) (fields : Fields)
    → IsSoNamed (calendar_text names place fields) (meaning_in names place fields)
so_named names (calendar.All meaning) fields = named_itself (calendar_of meaning)
so_named names (calendar.Column column) fields =
    of_field (get_or fields column.place []) (meant_in names column.otherwise (get_or fields column.place []))
    (calendar_called (get_or fields column.place [])) refl

own_named : (text : List ℕ) (meant : Option CalendarMeaning) (own : Option OwnDate) → IsSoNamed text meant
    → IsSoNamed (or_calendar text own) (or_meaning meant own)
own_named text meant None named = named
own_named text meant (Some own) named = named_itself own.1

-- a date that its row has accepted stays no text that says none
no_stop : (reading : Choice) (c : Calendar) (names : List Name) (field text : List ℕ) → is_utf8 text ≡ true
    → (date : Date) → IsDateText c text date → IsStopIn reading c names field text None
no_stop reading c names field text utf8 date says = record {
  stays = λ h. absurd (h.no_date (IsUtf8-from_is_utf8 field (subst (λ (t : List ℕ). is_utf8 t ≡ true) h.stays utf8)) date
      (subst (λ (t : List ℕ). IsDateText c t date) h.stays says));
  other = λ h. refl;
}

for_meaning : (one : OneCalendar) (choice : SheetChoice) (column : DateColumn) (fields : Fields)
    (meant : Option CalendarMeaning) (calendar text : List ℕ) (c : Calendar) (date : Date) → IsSoNamed calendar meant
    → is_utf8 text ≡ true → Says calendar text c date → IsSome (option_map calendar_of meant)
    → IsStopBy choice column fields text (option_map calendar_of meant) None
for_meaning one choice column fields None calendar text c date named utf8 says some = absurd (cc)
for_meaning one choice column fields (Some meaning) calendar text c date named utf8 says some =
    let same : c ≡ calendar_of meaning = one calendar c (calendar_of meaning) says.named named in
    no_stop choice.reading (calendar_of meaning) choice.names.now.listed.now (date_text choice column fields) text utf8 date
    (subst (λ (x : Calendar). IsDateText x text date) same says.dated)

and_third : (a b c d : Bool) → (((a && b) && c) && d) ≡ true → c ≡ true
and_third a b true d e = refl
and_third true true false d e = absurd (cc)
and_third a b false d e = absurd (cc)

-- the date of a record whose first row was accepted
pub accepted_date : (one : OneCalendar) (choice : SheetChoice) (column : DateColumn) (number : ℕ) (fields : Fields)
    (id calendar : List ℕ) (meant : Option CalendarMeaning) (end : DatedEnd)
    → calendar ≡ calendar_for choice column fields → meant ≡ meaning_for choice column fields
    → IsRowOf (asked_targets choice.columns.now) (end_entry number id calendar end) end.row → HasDate end
    → IsSome (option_map calendar_of meant) → IsStopBy choice column fields end.text (option_map calendar_of meant) None
accepted_date one choice column number fields id calendar meant end is_calendar is_meant row has some =
    let t : Texts = record { id = id; calendar = calendar; date = end.text; note = [] } in
    let named : IsSoNamed calendar meant = subst (λ (text : List ℕ). IsSoNamed text meant) (sym is_calendar)
    (subst (λ (m : Option CalendarMeaning). IsSoNamed (calendar_for choice column fields) m) (sym is_meant)
    (own_named (calendar_text choice.calendars.now column.calendar fields)
    (meaning_in choice.calendars.now column.calendar fields) (own_in choice column fields)
    (so_named choice.calendars.now column.calendar fields))) in
    let (utf8, said) = body_ok (are_short t) (are_utf8 t) t end.row.outcome
    (rw (has.calendar, has.short) at row.outcome) has.accepted in
    let (c, date, says) = said in
    for_meaning one choice column fields meant calendar end.text c date named
    (and_third (is_utf8 id) (is_utf8 calendar) (is_utf8 end.text) (is_utf8 []) utf8) says some
