-- Laws of dates that name their calendars.
use Rattle.std.proofs.Common.{◌≡◌, ◌∙◌, ℕ, List, None, Option, ap, get_or, inl, inr, [], refl, subst, sym, true}
use Rattle.sheets.proofs.Common.{Fields, CalendarMeaning, calendar_for, id_text, meaning_for, AreEndsIn, Dated}
use Rattle.sheets.proofs.Common.{as_text, DateColumn, SheetChoice}
use Rattle.std.specs.Char.{is_ascii_digit}
use Rattle.std.proofs.lemmas.Bool.{cases_Bool}
use Rattle.sheets.specs.Choices.{calendar_text, date_text, meaning_in, own_by, own_in}
use Rattle.sheets.specs.DateEnds.{IsDated}
use Rattle.sheets.specs.Laws.{DigitsNameNone, NamesAreColumns}
use Rattle.sheets.specs.OwnCalendars.{has_styles, last_byte, or_calendar, or_date, or_meaning, own_date}
use Rattle.sheets.specs.declared.choices.CalendarField.{CalendarField}
use Rattle.sheets.proofs.DateLemmas.{entry_as}

-- a text that ends with a digit names none
no_name : (choice : SheetChoice) (meaning : Option CalendarMeaning) (field : List ℕ)
    → is_ascii_digit (last_byte field) ≡ true → own_by choice meaning field ≡ None
unfolding own_date
no_name choice meaning field digit =
    elim (cases_Bool (has_styles meaning)) [
      | inl has ↦ rw (has, digit) refl
      | inr lacks ↦ rw lacks refl
    ]

pub digits_name_none : DigitsNameNone
digits_name_none choice column fields digit =
    let field = get_or fields column.date [] in
    let calendar = calendar_text choice.calendars.now column.calendar fields in
    let meaning = meaning_in choice.calendars.now column.calendar fields in
    let none : own_in choice column fields ≡ None = no_name choice meaning field digit in
    (ap (or_date field) none, ap (or_calendar calendar) none, ap (or_meaning meaning) none)

-- what is the same of two dates with the same text, calendar, meaning and id
same_dated : (choice : SheetChoice) (column other : DateColumn) (number : ℕ) (fields others : Fields) (dated : Dated)
    → date_text choice column fields ≡ date_text choice other others
    → calendar_for choice column fields ≡ calendar_for choice other others
    → meaning_for choice column fields ≡ meaning_for choice other others
    → id_text choice.id number fields ≡ id_text choice.id number others
    → IsDated choice number fields column dated → IsDated choice number others other dated
same_dated choice column other number fields others dated text calendar meaning id h =
    let names = choice.names.now.listed.now in
    let first = as_text dated.first in
    let last = as_text dated.last in
    record {
      ends = subst (λ (m : Option CalendarMeaning). AreEndsIn m choice.spans choice.reading names
          (date_text choice other others) first last dated.marks) meaning
          (subst (λ (t : List ℕ). AreEndsIn (meaning_for choice column fields) choice.spans choice.reading names t first
          last dated.marks) text h.ends);
      first = entry_as choice number _ _ _ _ dated.first dated.first id calendar refl h.first;
      last = entry_as choice number _ _ _ _ dated.last dated.last id calendar refl h.last;
      edtf = h.edtf;
    }

pub names_are_columns : NamesAreColumns
names_are_columns choice column other number fields others own dated named text calendar none id =
    let field = get_or fields column.date [] in
    let in_field = calendar_text choice.calendars.now column.calendar fields in
    let in_record = meaning_in choice.calendars.now column.calendar fields in
    let by : CalendarField → List ℕ = λ place. calendar_text choice.calendars.now place others in
    let meant : CalendarField → Option CalendarMeaning = λ place. meaning_in choice.calendars.now place others in
    same_dated choice column other number fields others dated
    (ap (or_date field) named ∙ sym (ap (or_date (get_or others other.date [])) none ∙ text))
    (ap (or_calendar in_field) named ∙ sym (ap (or_calendar (by other.calendar)) none ∙ ap by calendar))
    (ap (or_meaning in_record) named ∙ sym (ap (or_meaning (meant other.calendar)) none ∙ ap meant calendar)) id
