-- How counts grow.
use Rattle.std.specs.Prelude.{◌≡◌, ◌≤◌, ◌<◌, ◌+◌, ℕ, List, [], ◌∷◌, count_by, get_or, length}
use Rattle.date_texts.specs.declared.refusal.Refusal.{Refusal}
use Rattle.register_records.specs.Entries.{Fields}
use Rattle.sheets.specs.DateEnds.{Dated}
use Rattle.register_records.specs.RefusalCounts.{count_of}
use Rattle.sheets.specs.DateCounts.{DateRow, date_at, is_blank_record, is_empty, is_refused, is_refused_with, is_span}
use Rattle.sheets.specs.DateCounts.{no_counts}
use Rattle.sheets.specs.declared.choices.DateColumn.{DateColumn}
use Rattle.sheets.specs.declared.date_counts.DateCounts.{DateCounts}
use Rattle.sheets.specs.declared.date_counts.SheetCounts.{SheetCounts}

-- these dates are counted
pub record CountsDates (dates : List DateRow) (old new : DateCounts) : Type 0 where
  pub refused : new.refused ≡ old.refused + count_by is_refused dates
  pub reasons : (refusal : Refusal) → count_of new.refused_with refusal
      ≡ count_of old.refused_with refusal + count_by (is_refused_with refusal) dates
  pub empty : new.empty ≡ old.empty + count_by is_empty dates
  pub spans : new.spans ≡ old.spans + count_by is_span dates

-- the dates of a record with these rows are counted
pub record CountsRecord (columns : List DateColumn) (fields : Fields) (rows : List Dated) (old new : SheetCounts)
    : Type 0 where
  pub dates : (place : ℕ) → place < length columns → CountsDates (date_at columns place fields rows)
      (get_or old.dates place no_counts) (get_or new.dates place no_counts)
  pub blank : new.blank ≡ old.blank + count_by is_blank_record (fields ∷ [])

-- no more than so many are counted
pub record IsUpTo (limit : ℕ) (counts : DateCounts) : Type 0 where
  pub refused : counts.refused ≤ limit
  pub reasons : (refusal : Refusal) → count_of counts.refused_with refusal ≤ limit
  pub empty : counts.empty ≤ limit
  pub spans : counts.spans ≤ limit

pub record AreUpTo (limit : ℕ) (columns : List DateColumn) (counts : SheetCounts) : Type 0 where
  pub dates : (place : ℕ) → place < length columns → IsUpTo limit (get_or counts.dates place no_counts)
  pub blank : counts.blank ≤ limit
