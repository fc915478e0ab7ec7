-- How a source ends, and what its output has gained.
use Rattle.std.specs.Prelude.{◌≡◌, ◌⊎◌, ℕ, List, [], length, map, Option, ⊤, Bool, true, false}
use Rattle.std.specs.Io.KnownBytes.{Appends}
use Rattle.std.specs.List.{AllZip, range_with_len}
use Rattle.register_records.specs.Entries.{HasAllEntries, HasEntries, HasFirstEntries, Numbered, Reading}
use Rattle.register_records.specs.Outcomes.{IsRowOf, TableRow}
use Rattle.register_records.specs.Tables.{Layout, journal_of, table_text}
use Rattle.register_records.specs.declared.ends.Cause.{Cause}
use Rattle.register_records.specs.declared.ends.Cause.TheVariants as cause
use Rattle.register_records.specs.declared.ends.Note.{Note}
use Rattle.register_records.specs.declared.ends.SourceEnd.{SourceEnd}
use Rattle.register_records.specs.declared.ends.SourceEnd.TheVariants as end

-- the output gained bytes that are as said, and nothing else
abbrev pub Gains : Option (List ℕ) → Option (List ℕ) → (List ℕ → Type 0) → Type 0
Gains old new AreAsSaid = (bytes : List ℕ) × AreAsSaid bytes × Appends old new bytes

-- these bytes are the table of these entries, numbered from 1: the heading's line, and the line of each one's row
pub record IsTableOf (layout : Layout) (entries : List Numbered) (rows : List TableRow) (bytes : List ℕ) : Type 0 where
  pub numbered : map (λ (entry : Numbered). entry.number) entries ≡ range_with_len 1 (length entries)
  pub converted : AllZip (IsRowOf layout.targets) entries rows
  pub written : bytes ≡ table_text layout rows

-- these bytes are the table of some entries and rows, which are as said
abbrev pub IsTableWith : Layout → (List Numbered → List TableRow → Type 0) → List ℕ → Type 0
IsTableWith layout AreAsSaid bytes =
    (entries : List Numbered) × (rows : List TableRow) × IsTableOf layout entries rows bytes × AreAsSaid entries rows

-- these bytes are the whole table of the text, which is accepted, with so many rows and refused rows, and this journal
abbrev pub IsWholeTable : Reading → Layout → Option (List ℕ) → ℕ → ℕ → List Note → List ℕ → Type 0
IsWholeTable reading layout text count refused journal = IsTableWith layout (λ entries rows. HasEntries reading text entries
    × (count ≡ length rows) × (refused ≡ length journal) × (journal ≡ journal_of rows))

-- these bytes are a front of the table: its heading and its first rows, so many
abbrev pub IsFrontOfTable : Reading → Layout → Option (List ℕ) → ℕ → List ℕ → Type 0
IsFrontOfTable reading layout text count =
    IsTableWith layout (λ entries rows. HasFirstEntries reading text entries × (count ≡ length rows))

-- these bytes are the heading and the rows of all entries of the text, which need not be accepted
abbrev pub IsTableOfAll : Reading → Layout → Option (List ℕ) → List ℕ → Type 0
IsTableOfAll reading layout text = IsTableWith layout (λ entries rows. HasAllEntries reading text entries)

-- these bytes are none, or a front of the table
abbrev pub ArePartOfTable : Reading → Layout → Option (List ℕ) → List ℕ → Type 0
ArePartOfTable reading layout text bytes =
    (bytes ≡ []) ⊎ ((count : ℕ) × IsFrontOfTable reading layout text count bytes)

abbrev pub IfWhole : SourceEnd → (ℕ → ℕ → List Note → Type 0) → Type 0
IfWhole (end.Whole rows refused journal) P = P rows refused journal.items
IfWhole (end.Broken cause) P = ⊤

abbrev pub IfBroken : SourceEnd → (Cause → Type 0) → Type 0
IfBroken (end.Whole rows refused journal) P = ⊤
IfBroken (end.Broken cause) P = P cause

-- the refused rows of a source that ended whole
abbrev pub journal_in : SourceEnd → List Note
journal_in (end.Whole rows refused journal) = journal.items
journal_in (end.Broken cause) = []

-- the source ended whole
abbrev pub is_whole_end : SourceEnd → Bool
is_whole_end (end.Whole rows refused journal) = true
is_whole_end (end.Broken cause) = false

-- the number of a cause
abbrev pub cause_number : Cause → ℕ
cause_number cause.NoMemory = 1
cause_number cause.NoThread = 2
cause_number cause.Unconfirmed = 3
cause_number cause.SinkFault = 4
cause_number cause.ReadFault = 5
cause_number cause.BadHeader = 6
cause_number cause.TooManyRecords = 7
cause_number cause.NotSealed = 8
