-- What has become of a text and of the room for its table.
use Rattle.std.specs.Prelude.{◌≡◌, ◌≢◌, ◌≤◌, ℕ, Bool, true, false, List, length, Some, Result, Ok, Err}
use Rattle.register_records.specs.Entries.{HasNoHeader, HasTooMany, IsNotSealed, Reading, record_limit}
use Rattle.register_records.specs.SetupRules.{NamesTwice, is_delimiter}
use Rattle.register_records.specs.Sources.{ArePartOfTable, IfBroken, IfWhole, IsFrontOfTable, IsTableOfAll}
use Rattle.register_records.specs.Sources.{IsWholeTable}
use Rattle.register_records.specs.Tables.{Layout}
use Rattle.register_records.specs.declared.setups.Form.TheVariants.{Sealed}
use Rattle.register_records.specs.declared.ends.Cause.TheVariants as cause
use Rattle.page_rules.specs.Requests.{goes_beyond, layout_by, reading_by, targets_at}
use Rattle.page_rules.specs.Rooms.{Puts}
use Rattle.page_rules.specs.declared.converting.Converted.{Converted}
use Rattle.page_rules.specs.declared.requests.RequestFault.{RequestFault}
use Rattle.page_rules.specs.declared.requests.RequestFault.TheVariants as fault

-- the text was converted as it ended, and its table, or what was made of it, was put to the front of the room
pub record IsConverted (reading : Reading) (layout : Layout) (text old new : List ℕ) (it : Converted) : Type 0 where
  -- the whole table
  pub whole : IfWhole it.end (λ rows refused journal. ∥ Puts old new it.length
      (IsWholeTable reading layout (Some text) rows refused journal) ∥₁)
  pub numbers : IfWhole it.end (λ rows refused journal.
      (rows ≤ record_limit) × (refused ≤ rows) × (refused ≡ length journal))
  -- where the conversion broke off, nothing or a front of the table
  pub part : IfBroken it.end (λ c. ∥ Puts old new it.length (ArePartOfTable reading layout (Some text)) ∥₁)
  pub no_memory : IfBroken it.end (λ c. c ≡ cause.SinkFault → (it.length ≡ 0) × (new ≡ old))
  pub bad_header : IfBroken it.end (λ c. c ≡ cause.BadHeader
      → HasNoHeader reading text × (it.length ≡ 0) × (new ≡ old))
  pub too_many : IfBroken it.end (λ c. c ≡ cause.TooManyRecords → ∥ HasTooMany reading text ∥₁
      × ∥ Puts old new it.length (IsFrontOfTable reading layout (Some text) record_limit) ∥₁)
  pub not_sealed : IfBroken it.end (λ c. c ≡ cause.NotSealed
      → (reading.form ≡ Sealed) × ∥ IsNotSealed reading text ∥₁
      × ∥ Puts old new it.length (IsTableOfAll reading layout (Some text)) ∥₁)
  pub never : IfBroken it.end (λ c. (c ≢ cause.NoThread) × (c ≢ cause.Unconfirmed))

-- what is returned for what was asked: the first fault that it has, with the room as it was, or the conversion
abbrev pub IsReturned : List ℕ → ℕ → Bool → List ℕ → List ℕ → List ℕ → Result Converted RequestFault → Type 0
IsReturned columns delimiter sealed text old new (Err fault.NoSuchColumn) =
    (goes_beyond columns ≡ true) × (new ≡ old)
IsReturned columns delimiter sealed text old new (Err fault.ColumnTwice) =
    (goes_beyond columns ≡ false) × NamesTwice (targets_at columns) × (new ≡ old)
IsReturned columns delimiter sealed text old new (Err fault.Delimiter) =
    (goes_beyond columns ≡ false) × ¬ (NamesTwice (targets_at columns)) × (is_delimiter delimiter ≡ false)
    × (new ≡ old)
IsReturned columns delimiter sealed text old new (Ok it) =
    (goes_beyond columns ≡ false) × ¬ (NamesTwice (targets_at columns)) × (is_delimiter delimiter ≡ true)
    × IsConverted (reading_by delimiter sealed) (layout_by columns delimiter sealed) text old new it
