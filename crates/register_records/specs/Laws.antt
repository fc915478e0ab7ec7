-- Laws of tables.
use Rattle.std.specs.Prelude.{◌≡◌, ◌≢◌, ◌<◌, ◌++◌, ◌∷◌, ℕ, ℤ, List, [], length, Ok, Some}
use Rattle.std.specs.List.{AllZip}
use Rattle.day_numbers.specs.Days.{IsDayNumber}
use Rattle.date_texts.specs.Calendars.{calendar_name}
use Rattle.date_texts.specs.Cells.{IsCell}
use Rattle.date_texts.specs.Names.{IsNamed}
use Rattle.date_texts.specs.declared.calendar.Calendar.{Calendar}
use Rattle.date_texts.specs.declared.target.Target.{Target}
use Rattle.date_texts.specs.declared.target.Target.TheVariants.{Date as DateTarget}
use Rattle.register_records.specs.Entries.{AreAccepted, Fields, HasEntries, HasNoHeader, HasTooMany}
use Rattle.register_records.specs.Entries.{IsNotSealed, Numbered, Reading, Texts}
use Rattle.register_records.specs.Outcomes.{IsOutcome, IsRowOf, TableRow}
use Rattle.register_records.specs.Sources.{IsWholeTable}
use Rattle.register_records.specs.Tables.{Layout, journal_of, refusal_notes, row_line, table_text}
use Rattle.register_records.specs.declared.setups.Form.TheVariants.{Sealed}
use Rattle.register_records.specs.declared.ends.Note.{Note}

-- a text has one list of entries at most, and entries have one list of rows at most: so a text has one
-- table and one journal at most
abbrev pub OneTable : Type 0
OneTable =
    (reading : Reading) (targets : List Target) (text : List ℕ) (entries others : List Numbered)
    (rows more : List TableRow)
    → HasEntries reading (Some text) entries → HasEntries reading (Some text) others
    → AllZip (IsRowOf targets) entries rows → AllZip (IsRowOf targets) others more → (entries ≡ others) × (rows ≡ more)

-- an accepted text has a whole table
abbrev pub EveryTextHasTable : Type 0
EveryTextHasTable =
    (reading : Reading) (layout : Layout) (text : List ℕ) (entries : List Numbered)
    → HasEntries reading (Some text) entries
    → (count : ℕ) × (refused : ℕ) × (journal : List Note) × (bytes : List ℕ)
    × IsWholeTable reading layout (Some text) count refused journal bytes

-- a cell of a calendar that is not empty, read as a date of that calendar, gives the cell's day again
abbrev pub CellsReadBack : Type 0
CellsReadBack =
    (calendar : Calendar) (n : ℤ) (texts : Texts) → IsDayNumber n → IsNamed texts.calendar (calendar_name calendar)
    → IsCell (DateTarget calendar) n texts.date → texts.date ≢ [] → IsOutcome (Ok texts) (Ok n)

-- one more row: the table gains its line at the end, and the journal its note
abbrev pub TablesGrow : Type 0
TablesGrow =
    (layout : Layout) (rows : List TableRow) (row : TableRow)
    → (table_text layout (rows ++ row ∷ []) ≡ table_text layout rows ++ row_line layout row)
    × (journal_of (rows ++ row ∷ []) ≡ journal_of rows ++ refusal_notes row.number row.outcome)

-- these are left where some of the records, wherever they stand, or none are taken out
pub data AreLeftOf : List Fields → List Fields → Type 0 where
  none : AreLeftOf [] []
  kept : {r : Fields} {records left : List Fields} → AreLeftOf records left → AreLeftOf (r ∷ records) (r ∷ left)
  taken : {r : Fields} {records left : List Fields} → AreLeftOf records left → AreLeftOf (r ∷ records) left

-- where one or more of the records of an accepted sealed text are taken out, what is left is not accepted
abbrev pub NoLossIsSealed : Type 0
NoLossIsSealed =
    (records left : List Fields) → AreAccepted Sealed records → AreLeftOf records left → length left < length records
    → ¬ (AreAccepted Sealed left)

-- what becomes of a text
pub data Fate : Type 0 where
  accepted : Fate
  no_header : Fate
  too_many : Fate
  not_sealed : Fate

abbrev pub HasFate : Reading → List ℕ → Fate → Type 0
HasFate reading text accepted = (entries : List Numbered) × HasEntries reading (Some text) entries
HasFate reading text no_header = HasNoHeader reading text
HasFate reading text too_many = HasTooMany reading text
HasFate reading text not_sealed = IsNotSealed reading text

-- a text has one of these fates, and no other
abbrev pub OneFate : Type 0
OneFate =
    (reading : Reading) (text : List ℕ)
    → (fate : Fate) × HasFate reading text fate × ((other : Fate) → HasFate reading text other → other ≡ fate)
