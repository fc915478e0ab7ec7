-- How many dates of a sheet were refused, and how many are empty.
use Rattle.std.specs.Prelude.{◌≡◌, ◌<◌, ◌==◌, ◌&&◌, ℕ, ℤ, Bool, true, false, List, [], ◌∷◌, Option, Some, Result, Ok, Err}
use Rattle.std.specs.Prelude.{count_by, get_or, if◌then◌else◌, is_err, is_ok, length, not, slice_get}
use Rattle.std.specs.List.{flat_map, list_all, zip}
use Rattle.std.specs.Ordering.{int_eq}
use Rattle.date_texts.specs.Refusals.{refusal_number}
use Rattle.date_texts.specs.declared.refusal.Refusal.{Refusal}
use Rattle.date_texts.specs.declared.refusal.Refusal.TheVariants as refusal
use Rattle.register_records.specs.Entries.{Fields}
use Rattle.register_records.specs.RefusalCounts.{count_of}
use Rattle.written_dates.specs.Fields.{without_blanks}
use Rattle.sheets.specs.DateEnds.{Dated, told}
use Rattle.sheets.specs.declared.choices.DateColumn.{DateColumn}
use Rattle.sheets.specs.declared.date_counts.DateCounts.{DateCounts}
use Rattle.sheets.specs.declared.date_counts.SheetCounts.{SheetCounts}

-- nothing but blanks stands in a field, and in each field of a record
abbrev pub is_blank : List ℕ → Bool
is_blank field = length (without_blanks field) == 0

abbrev pub is_blank_record : Fields → Bool
is_blank_record fields = list_all is_blank fields

-- the refusals that a record can have for nothing but that there is no date
abbrev pub is_of_empty : Refusal → Bool
is_of_empty refusal.UnknownCalendar = true
is_of_empty refusal.DateText = true
is_of_empty other = false

-- a record was refused, for one of those, and for this
abbrev pub refused_as : (Refusal → Bool) → Result ℤ Refusal → Bool
refused_as p (Ok day) = false
refused_as p (Err refusal) = p refusal

-- what stands in the field of a date, and what its column has of its record
abbrev pub DateRow : Type 0
DateRow = List ℕ × Dated

-- whether it was refused, or its day
abbrev pub outcome_of : DateRow → Result ℤ Refusal
outcome_of date = (told date.1).outcome

-- there is no date, and its record was refused for that alone; or it was refused, and for this
abbrev pub is_empty : DateRow → Bool
is_empty date = is_blank date.0 && refused_as is_of_empty (outcome_of date)

abbrev pub is_refused : DateRow → Bool
is_refused date = is_err (outcome_of date) && not (is_empty date)

abbrev pub is_refused_with : Refusal → DateRow → Bool
is_refused_with refusal date =
    refused_as (λ other. refusal_number other == refusal_number refusal) (outcome_of date) && not (is_empty date)

-- it is accepted, and no single day: an end is open, or both are not one day
abbrev pub is_one_day : Result ℤ Refusal → Result ℤ Refusal → Bool
is_one_day (Ok first) (Ok last) = int_eq first last
is_one_day first last = false

abbrev pub is_span : DateRow → Bool
is_span date =
    is_ok (outcome_of date) && not (is_one_day date.1.first.row.outcome date.1.last.row.outcome)

-- the date of a record in the column at a place; a blank record has none
abbrev pub date_of : Fields → Option DateColumn → Option Dated → List DateRow
date_of fields (Some column) (Some row) = (get_or fields column.date [], row) ∷ []
date_of fields column row = []

abbrev pub date_at : List DateColumn → ℕ → Fields → List Dated → List DateRow
date_at columns place fields rows =
    if is_blank_record fields then [] else date_of fields (slice_get columns place) (slice_get rows place)

-- those of records with these rows
abbrev pub dates_at : List DateColumn → ℕ → List Fields → List (List Dated) → List DateRow
dates_at columns place records rows = flat_map (λ r. date_at columns place r.0 r.1) (zip records rows)

-- so many of these dates were refused, and for each reason, and so many are empty
pub record AreDateCounts (dates : List DateRow) (counts : DateCounts) : Type 0 where
  pub refused : counts.refused ≡ count_by is_refused dates
  pub reasons : (refusal : Refusal) → count_of counts.refused_with refusal ≡ count_by (is_refused_with refusal) dates
  pub empty : counts.empty ≡ count_by is_empty dates
  pub spans : counts.spans ≡ count_by is_span dates

-- the counts of no date
abbrev pub no_counts : DateCounts
no_counts =
    record {
      refused = 0;
      refused_with = record {
        field_count = 0;
        field_too_long = 0;
        not_utf8 = 0;
        unknown_calendar = 0;
        date_text = 0;
        no_such_date = 0;
        out_of_range = 0;
      };
      empty = 0;
      spans = 0;
    }

-- so many dates of each column were refused or are empty in records with these rows, and so many records are blank
pub record AreSheetCounts (columns : List DateColumn) (records : List Fields) (rows : List (List Dated))
    (counts : SheetCounts) : Type 0 where
  pub dates : (place : ℕ) → place < length columns
      → AreDateCounts (dates_at columns place records rows) (get_or counts.dates place no_counts)
  pub blank : counts.blank ≡ count_by is_blank_record records
