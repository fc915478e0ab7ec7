-- The registers of a column of dates, as texts.
use Rattle.std.specs.Prelude.{◌≡◌, ◌⊎◌, ◌+◌, ◌<◌, ◌≤◌, ⊤, ℕ, List, [], ◌∷◌, codes, length, take}
use Rattle.register_records.specs.Entries.{Fields, record_limit}
use Rattle.date_spans.specs.declared.spans.Marks.{Marks}
use Rattle.sheets.specs.CalendarChanges.{EndText}
use Rattle.sheets.specs.Choices.{register_record}
use Rattle.sheets.specs.Converted.{below}
use Rattle.sheets.specs.DateEnds.{AreEnds, one_end}
use Rattle.sheets.specs.Sheets.{records_text}
use Rattle.sheets.specs.declared.choices.DateColumn.{DateColumn}
use Rattle.sheets.specs.declared.choices.End.{End}
use Rattle.sheets.specs.declared.choices.SheetChoice.{SheetChoice}

-- this is what the register of the first or the last days of a column has of the record with this number
pub record IsEntry (choice : SheetChoice) (column : DateColumn) (end : End) (number : ℕ) (fields entry : Fields)
    : Type 0 where
  pub first : EndText
  pub last : EndText
  pub marks : Marks
  pub ends : AreEnds choice column fields first last marks
  pub is : entry ≡ register_record choice column number fields (one_end end first last)

-- what it has of these records, the first of which has the number after k
abbrev pub AreEntries : SheetChoice → DateColumn → End → ℕ → List Fields → List Fields → Type 0
AreEntries choice column end k [] [] = ⊤
AreEntries choice column end k (fields ∷ records) (entry ∷ entries) =
    IsEntry choice column end (k + 1) fields entry × AreEntries choice column end (k + 1) records entries
AreEntries choice column end k records entries = ⊥

abbrev pub register_head : Fields
register_head = codes "id" ∷ codes "calendar" ∷ codes "date" ∷ []

-- these are its entries for the first records below the names
pub record AreFirstEntries (choice : SheetChoice) (column : DateColumn) (end : End) (records entries : List Fields)
    : Type 0 where
  pub has_names : choice.above < length records
  pub are : AreEntries choice column end 0 (take (length entries) (below choice records)) entries
  pub limited : length entries ≤ record_limit

-- these bytes are the register, with so many entries
pub record IsRegister (choice : SheetChoice) (column : DateColumn) (end : End) (records : List Fields) (count : ℕ)
    (bytes : List ℕ) : Type 0 where
  pub entries : List Fields
  pub first : AreFirstEntries choice column end records entries
  pub all : length entries ≡ length (below choice records)
  pub counted : count ≡ length entries
  pub written : bytes ≡ records_text choice.delimiter (register_head ∷ entries)

-- these bytes are its first lines, which may be none
pub record IsFrontOfRegister (choice : SheetChoice) (column : DateColumn) (end : End) (records : List Fields)
    (bytes : List ℕ) : Type 0 where
  pub entries : List Fields
  pub count : ℕ
  pub first : AreFirstEntries choice column end records entries
  pub written : bytes ≡ records_text choice.delimiter (take count (register_head ∷ entries))

abbrev pub ArePartOfRegister : SheetChoice → DateColumn → End → List Fields → List ℕ → Type 0
ArePartOfRegister choice column end records bytes =
    (bytes ≡ []) ⊎ IsFrontOfRegister choice column end records bytes

-- these bytes are the register down to the last entry that may be, and there are more
pub record IsFullRegister (choice : SheetChoice) (column : DateColumn) (end : End) (records : List Fields)
    (bytes : List ℕ) : Type 0 where
  pub entries : List Fields
  pub first : AreFirstEntries choice column end records entries
  pub full : length entries ≡ record_limit
  pub more : record_limit < length (below choice records)
  pub written : bytes ≡ records_text choice.delimiter (register_head ∷ entries)
