-- The first and the last day of a date of a sheet.
use Rattle.std.specs.Prelude.{◌≡◌, ℕ, ℤ, Bool, true, false, not, ◌&&◌, ◌==◌, if◌then◌else◌, is_err, List, [], ◌∷◌}
use Rattle.std.specs.Prelude.{◌++◌, Option, None, Some, codes, length}
use Rattle.std.specs.Result.{result_ok}
use Rattle.date_texts.specs.declared.calendar.Calendar.{Calendar}
use Rattle.date_spans.specs.Spans.{IsSpan, marks}
use Rattle.date_spans.specs.Styles.{IsWrittenInBoth}
use Rattle.date_spans.specs.declared.sayings.Kind.{Kind}
use Rattle.date_spans.specs.declared.sayings.Kind.TheVariants as kinds
use Rattle.date_spans.specs.declared.spans.Marks.{Marks}
use Rattle.date_spans.specs.Edtf.{IsEdtf}
use Rattle.date_spans.specs.declared.edtf.Sense.{Sense}
use Rattle.register_records.specs.Entries.{Fields}
use Rattle.register_records.specs.Outcomes.{IsRowOf, TableRow}
use Rattle.written_dates.specs.Written.{written}
use Rattle.written_dates.specs.declared.meanings.Name.{Name}
use Rattle.written_dates.specs.declared.written.Choice.{Choice}
use Rattle.date_texts.specs.declared.calendar.Calendar.TheVariants.{Gregorian, Julian}
use Rattle.written_dates.specs.declared.fields.CalendarMeaning.{CalendarMeaning}
use Rattle.written_dates.specs.declared.fields.CalendarMeaning.TheVariants.{One, Both, Changed}
use Rattle.sheets.specs.CalendarChanges.{EndText, IsAtChange}
use Rattle.sheets.specs.Choices.{asked_targets, date_text, meaning_for, row_entry}
use Rattle.sheets.specs.declared.calendar_changes.EndCalendar.{EndCalendar}
use Rattle.sheets.specs.declared.calendar_changes.EndCalendar.TheVariants.{OfRecord, OldStyle}
use Rattle.sheets.specs.declared.choices.DateColumn.{DateColumn}
use Rattle.sheets.specs.declared.choices.End.{End}
use Rattle.sheets.specs.declared.choices.End.TheVariants as ends
use Rattle.sheets.specs.declared.choices.SheetChoice.{SheetChoice}
use Rattle.sheets.specs.declared.choices.Spans.{Spans}
use Rattle.sheets.specs.declared.choices.Spans.TheVariants as spans

-- the marks of a date
abbrev pub day_marks : Marks
day_marks = marks kinds.One false false

-- these are, as date texts of registers, the first and the last day that a field can mean: without spans, the date that
-- is written for it, twice
abbrev pub AreEndsBy : Spans → Choice → Option Calendar → List Name → List ℕ → List ℕ → List ℕ → Marks → Type 0
AreEndsBy spans.Unread reading calendar names field first last found =
    (first ≡ written reading calendar names field) × (last ≡ first) × (found ≡ day_marks)
AreEndsBy spans.Ends reading calendar names field first last found = IsSpan reading calendar names field first last found
AreEndsBy spans.EndsAndEdtf reading calendar names field first last found =
    IsSpan reading calendar names field first last found

-- both are in the calendar of the record
abbrev pub AreOfRecord : EndText → EndText → Type 0
AreOfRecord first last = (first.calendar ≡ OfRecord) × (last.calendar ≡ OfRecord)

-- the marks are those found in the calendar of the first day
abbrev pub marks_at_change : EndCalendar → Marks → Marks → Marks
marks_at_change OldStyle julian gregorian = julian
marks_at_change end julian gregorian = gregorian

-- at a change of calendars: each end by what is written for the field in the one and in the other
pub record AreAtChange (from : ℤ) (kind : Spans) (reading : Choice) (names : List Name) (field : List ℕ)
    (first last : EndText) (found : Marks) : Type 0 where
  pub old_first : List ℕ
  pub old_last : List ℕ
  pub old_marks : Marks
  pub new_first : List ℕ
  pub new_last : List ℕ
  pub new_marks : Marks
  pub julian : AreEndsBy kind reading (Some Julian) names field old_first old_last old_marks
  pub gregorian : AreEndsBy kind reading (Some Gregorian) names field new_first new_last new_marks
  pub first_is : IsAtChange from old_first new_first first
  pub last_is : IsAtChange from old_last new_last last
  pub marks_are : found ≡ marks_at_change first.calendar old_marks new_marks

-- the ends by what is meant for the record: a calendar, or none; in both styles it is one day, the Gregorian date that is
-- written for it
abbrev pub AreEndsIn : Option CalendarMeaning → Spans → Choice → List Name → List ℕ → EndText → EndText → Marks → Type 0
AreEndsIn None kind reading names field first last found =
    AreOfRecord first last × AreEndsBy kind reading None names field first.text last.text found
AreEndsIn (Some (One calendar)) kind reading names field first last found =
    AreOfRecord first last × AreEndsBy kind reading (Some calendar) names field first.text last.text found
AreEndsIn (Some Both) kind reading names field first last found =
    AreOfRecord first last × IsWrittenInBoth reading names field first.text × (last.text ≡ first.text)
    × (found ≡ day_marks)
AreEndsIn (Some (Changed from)) kind reading names field first last found =
    AreAtChange from kind reading names field first last found

-- those of a record's date in a column
abbrev pub AreEnds : SheetChoice → DateColumn → Fields → EndText → EndText → Marks → Type 0
AreEnds choice column fields first last found =
    AreEndsIn (meaning_for choice column fields) choice.spans choice.reading choice.names.now.listed.now
    (date_text choice column fields) first last found

-- one of them
abbrev pub one_end : End → EndText → EndText → EndText
one_end ends.First first last = first
one_end ends.Last first last = last

-- the first or the last day: its calendar, the text of its date, and its row
pub record DatedEnd : Type 0 where
  pub calendar : EndCalendar
  pub text : List ℕ
  pub row : TableRow

abbrev pub as_text : DatedEnd → EndText
as_text end = record { calendar = end.calendar; text = end.text }

-- no date is written there
abbrev pub is_open : DatedEnd → Bool
is_open end = length end.text == 0

-- a date is written there, and was refused
abbrev pub is_failed : DatedEnd → Bool
is_failed end = is_err end.row.outcome && not (is_open end)

-- of a first and a last day the one that tells whether the date was refused: one that is open does not, where the other
-- is not
abbrev pub telling : DatedEnd → DatedEnd → DatedEnd
telling first last =
    if is_failed first then first
    else if is_failed last then last
    else if is_open first then last
    else first

-- what a column of dates has of a record: the first and the last day, the marks, and the text of EDTF
pub record Dated : Type 0 where
  pub first : DatedEnd
  pub last : DatedEnd
  pub marks : Marks
  pub edtf : List ℕ

-- the row that tells whether the date was refused
abbrev pub told : Dated → TableRow
told dated = (telling dated.first dated.last).row

-- one day from the first to the last is meant, and not all of them
abbrev pub is_one_of : Kind → Bool
is_one_of kinds.Range = false
is_one_of kind = true

abbrev pub sense_of : Marks → Sense
sense_of found = record { one_of = is_one_of found.kind; about = found.about; uncertain = found.uncertain }

-- the text of EDTF is asked, and no date was refused
abbrev pub asks_edtf : Spans → Bool
asks_edtf spans.EndsAndEdtf = true
asks_edtf kind = false

abbrev pub has_edtf : Spans → DatedEnd → DatedEnd → Bool
has_edtf kind first last = asks_edtf kind && not (is_failed first) && not (is_failed last)

-- then it is that for the days of both ends, and else there is none
abbrev pub IsEdtfIf : Bool → Dated → Type 0
IsEdtfIf true dated =
    IsEdtf (sense_of dated.marks) (result_ok dated.first.row.outcome) (result_ok dated.last.row.outcome) dated.edtf
IsEdtfIf false dated = dated.edtf ≡ []

abbrev pub IsEdtfOf : Spans → Dated → Type 0
IsEdtfOf kind dated = IsEdtfIf (has_edtf kind dated.first dated.last) dated

-- this is what a column has of the record with this number
pub record IsDated (choice : SheetChoice) (number : ℕ) (fields : Fields) (column : DateColumn) (dated : Dated) : Type 0
  where
    pub ends : AreEnds choice column fields (as_text dated.first) (as_text dated.last) dated.marks
    pub first : IsRowOf (asked_targets choice.columns.now)
        (row_entry choice column number fields (as_text dated.first)) dated.first.row
    pub last : IsRowOf (asked_targets choice.columns.now)
        (row_entry choice column number fields (as_text dated.last)) dated.last.row
    pub edtf : IsEdtfOf choice.spans dated

-- the words of marks, with a space (32) between two
abbrev pub kind_word : Kind → List ℕ
kind_word kinds.Between = codes "between"
kind_word kinds.Before = codes "before"
kind_word kinds.After = codes "after"
kind_word kinds.From = codes "from"
kind_word kinds.Until = codes "to"
kind_word kinds.Undated = codes "undated"
kind_word kind = []

abbrev pub about_word : Bool → List ℕ
about_word true = codes "about"
about_word false = []

abbrev pub uncertain_word : Bool → List ℕ
uncertain_word true = codes "uncertain"
uncertain_word false = []

abbrev pub inferred_word : Bool → List ℕ
inferred_word true = codes "inferred"
inferred_word false = []

abbrev pub spaced : List ℕ → List ℕ → List ℕ
spaced [] second = second
spaced (byte ∷ first) [] = byte ∷ first
spaced (byte ∷ first) (other ∷ second) = (byte ∷ first) ++ 32 ∷ (other ∷ second)

abbrev pub mark_text : Marks → List ℕ
mark_text found =
    spaced (kind_word found.kind)
    (spaced (about_word found.about) (spaced (uncertain_word found.uncertain) (inferred_word found.inferred)))
