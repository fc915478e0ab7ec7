-- What is read for a date.
use Rattle.std.proofs.Common.{◌≡◌, ◌∙◌, ℕ, ℤ, Bool, List, Option, Vec, ap, cond, false, is_ok, refl, subst, Err, Ok}
use Rattle.std.proofs.Common.{Result, option_map, sym, true}
use Rattle.sheets.proofs.Common.{Refusal, Fields, calendar_of, CalendarMeaning, asked_targets, calendar_for}
use Rattle.sheets.proofs.Common.{id_text, meaning_for, AreEndsIn, DatedEnd, as_text, DateStop, IsStopBy}
use Rattle.sheets.proofs.Common.{IsDateRead, date_seen, dated_seen, DateColumn, SheetChoice, ColumnDates}
use Rattle.std.specs.declared.alloc.Global.{Global}
use Rattle.std.proofs.lemmas.Bool.Decides.{Decides-int_eq}
use Rattle.date_spans.specs.declared.spans.Marks.{Marks}
use Rattle.register_records.specs.Outcomes.{IsRowOf}
use Rattle.sheets.specs.CalendarChanges.{EndText}
use Rattle.sheets.specs.Choices.{called_for, date_text}
use Rattle.sheets.specs.DateEnds.{IsEdtfOf, is_failed, is_open, telling}
use Rattle.sheets.specs.DateCounts.{is_one_day}
use Rattle.sheets.specs.private.DateViews.{HasRows, end_entry}
use Rattle.sheets.specs.private.SheetRecords.{stop_read}

-- one end that is both tells for itself, and is one day where it has one
told_by : (failed open_end : Bool) (end : DatedEnd) → cond failed end (cond failed end (cond open_end end end)) ≡ end
told_by true open_end end = refl
told_by false true end = refl
told_by false false end = refl

pub telling_itself : (end : DatedEnd) → telling end end ≡ end
telling_itself end = told_by (is_failed end) (is_open end) end

pub one_day_itself : (outcome : Result ℤ Refusal) → is_one_day outcome outcome ≡ is_ok outcome
one_day_itself (Ok day) = (Decides-int_eq day day).1 refl
one_day_itself (Err refusal) = refl

-- an end whose row is that of its entry
abbrev IsConverted : SheetChoice → ℕ → List ℕ → List ℕ → DatedEnd → Type 0
IsConverted choice number id calendar end =
    IsRowOf (asked_targets choice.columns.now) (end_entry number id calendar end) end.row

pub entry_as : (choice : SheetChoice) (number : ℕ) (id other calendar named : List ℕ) (end same : DatedEnd) → id ≡ other
    → calendar ≡ named → same ≡ end → IsConverted choice number id calendar end
    → IsConverted choice number other named same
entry_as choice number id other calendar named end same i n e h =
    subst (λ (x : DatedEnd). IsConverted choice number other named x) (sym e)
    (subst (λ (x : List ℕ). IsConverted choice number other x end) n
    (subst (λ (x : List ℕ). IsConverted choice number x calendar end) i h))

-- the calendar and both ends, then the rows, then the stop, and then the text of EDTF
pub date_is_read : (choice : SheetChoice) (column : DateColumn) (number : ℕ) (fields : Fields) (id : List ℕ)
    (meant : Option CalendarMeaning) (stop : Option DateStop) (mid rows new : ColumnDates)
    → mid.calendar.items ≡ calendar_for choice column fields
    → meant ≡ meaning_for choice column fields → id ≡ id_text choice.id number fields
    → AreEndsIn meant choice.spans choice.reading choice.names.now.listed.now (date_text choice column fields)
    (as_text (dated_seen mid).first) (as_text (dated_seen mid).last) mid.marks → HasRows choice number id mid rows
    → IsStopBy choice column fields (dated_seen rows).first.text (option_map calendar_of meant) stop
    → stop_read new.stop ≡ stop → new.calendar ≡ rows.calendar
    → (dated_seen new).first ≡ (dated_seen rows).first → (dated_seen new).last ≡ (dated_seen rows).last
    → new.marks ≡ rows.marks → IsEdtfOf choice.spans (dated_seen new)
    → IsDateRead choice number fields column (date_seen new)
date_is_read choice column number fields id meant stop mid rows new named is_meant is_id ends h stops stopped calendar first
    last marks edtf =
    let field = date_text choice column fields in
    let names = choice.names.now.listed.now in
    let meaning = meaning_for choice column fields in
    let first_text : as_text (dated_seen mid).first ≡ as_text (dated_seen new).first
    = sym (ap as_text first ∙ h.first_text) in
    let last_text : as_text (dated_seen mid).last ≡ as_text (dated_seen new).last
    = sym (ap as_text last ∙ h.last_text) in
    record {
      calendar = ap (λ (text : Vec ℕ Global). text.items) (calendar ∙ h.calendar) ∙ named;
      stop = subst (λ (stopping : Option DateStop). IsStopBy choice column fields (dated_seen new).first.text
          (called_for choice column fields) stopping) (sym stopped)
          (subst (λ (m : Option CalendarMeaning). IsStopBy choice column fields (dated_seen new).first.text
          (option_map calendar_of m) stop) is_meant
          (subst (λ (end : DatedEnd). IsStopBy choice column fields end.text (option_map calendar_of meant) stop)
          (sym first) stops));
      dated = record {
        ends = subst (λ (marked : Marks). AreEndsIn meaning choice.spans choice.reading names field
            (as_text (dated_seen new).first) (as_text (dated_seen new).last) marked) (sym (marks ∙ h.marks))
            (subst (λ (end : EndText). AreEndsIn meaning choice.spans choice.reading names field
            (as_text (dated_seen new).first) end mid.marks) last_text
            (subst (λ (end : EndText). AreEndsIn meaning choice.spans choice.reading names field end
            (as_text (dated_seen mid).last) mid.marks) first_text
            (subst (λ (m : Option CalendarMeaning). AreEndsIn m choice.spans choice.reading names field
            (as_text (dated_seen mid).first) (as_text (dated_seen mid).last) mid.marks) is_meant ends)));
        first = entry_as choice number id _ mid.calendar.items _ (dated_seen rows).first (dated_seen new).first is_id
            named first h.first;
        last = entry_as choice number id _ mid.calendar.items _ (dated_seen rows).last (dated_seen new).last is_id named
            last h.last;
        edtf = edtf;
      };
    }
