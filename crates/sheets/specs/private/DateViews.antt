-- What a clause sees of the rows of a date.
use Rattle.std.specs.Prelude.{◌≡◌, ◌++◌, ℕ, Bool, true, false, List, [], ◌∷◌, codes, is_ok, length, nat_le}
use Rattle.register_records.specs.Entries.{Fields, Numbered, body_of}
use Rattle.register_records.specs.Outcomes.{IsRowOf}
use Rattle.register_records.specs.declared.setups.Form.TheVariants.{Plain}
use Rattle.sheets.specs.CalendarChanges.{row_calendar, row_text}
use Rattle.sheets.specs.Choices.{asked_targets}
use Rattle.sheets.specs.Converted.{asked_cells, shown_in}
use Rattle.sheets.specs.DateEnds.{Dated, DatedEnd, as_text, mark_text, told}
use Rattle.sheets.specs.private.SheetRecords.{dated_seen}
use Rattle.sheets.specs.declared.calendar_changes.EndCalendar.TheVariants.{OfRecord}
use Rattle.sheets.specs.declared.choices.AskedColumn.{AskedColumn}
use Rattle.sheets.specs.declared.choices.SheetChoice.{SheetChoice}
use Rattle.sheets.specs.declared.sheet_records.ColumnDates.{ColumnDates}

-- the entry with this number and these texts
abbrev pub entry_of : ℕ → List ℕ → List ℕ → List ℕ → Numbered
entry_of number id calendar date =
    record { number = number; body = body_of Plain (id ∷ calendar ∷ date ∷ []) }

-- the entry with this number whose row an end has
abbrev pub end_entry : ℕ → List ℕ → List ℕ → DatedEnd → Numbered
end_entry number id calendar end =
    entry_of number id (row_calendar end.calendar calendar) (row_text end.calendar end.text)

-- a date in the calendar of the record is written for an end, and was accepted
pub record HasDate (end : DatedEnd) : Type 0 where
  pub calendar : end.calendar ≡ OfRecord
  pub short : nat_le (length end.text) 32 ≡ true
  pub accepted : is_ok end.row.outcome ≡ true

-- the rows are those of the entries for both ends, and all else stays
pub record HasRows (choice : SheetChoice) (number : ℕ) (id : List ℕ) (old new : ColumnDates) : Type 0 where
  pub calendar : new.calendar ≡ old.calendar
  pub stop : new.stop ≡ old.stop
  pub marks : new.marks ≡ old.marks
  pub first_text : as_text (dated_seen new).first ≡ as_text (dated_seen old).first
  pub last_text : as_text (dated_seen new).last ≡ as_text (dated_seen old).last
  pub first : IsRowOf (asked_targets choice.columns.now)
      (end_entry number id old.calendar.items (dated_seen new).first) (dated_seen new).first.row
  pub last : IsRowOf (asked_targets choice.columns.now)
      (end_entry number id old.calendar.items (dated_seen new).last) (dated_seen new).last.row

-- what comes behind a record for a date with a first and a last day
abbrev pub edtf_field : Bool → Dated → Fields
edtf_field true dated = dated.edtf ∷ []
edtf_field false dated = []

abbrev pub fields_behind : Bool → Dated → Fields
fields_behind true dated = dated.edtf ∷ mark_text dated.marks ∷ shown_in (codes "refusal") (told dated) ∷ []
fields_behind false dated = mark_text dated.marks ∷ shown_in (codes "refusal") (told dated) ∷ []

abbrev pub ends_fields : List AskedColumn → Dated → Bool → Fields
ends_fields columns dated with_edtf =
    asked_cells columns dated.first.row ++ asked_cells columns dated.last.row ++ fields_behind with_edtf dated
