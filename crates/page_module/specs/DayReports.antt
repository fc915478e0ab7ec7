-- What the numbers of a report of days say.
use Rattle.std.specs.Prelude.{◌≡◌, ◌≢◌, ◌⊎◌, ℕ, List, [], Some, length}
use Rattle.page_rules.specs.EntryDays.{HasDays, PutsDays}
use Rattle.page_rules.specs.declared.entry_days.EntryDay.{EntryDay}
use Rattle.register_records.specs.Entries.{HasAllEntries, HasEntries, HasFirstEntries, HasNoHeader, HasTooMany}
use Rattle.register_records.specs.Entries.{IsNotSealed, Numbered, Reading, record_limit}
use Rattle.register_records.specs.Sources.{cause_number}
use Rattle.register_records.specs.declared.ends.Cause.{Cause}
use Rattle.register_records.specs.declared.ends.Cause.TheVariants as cause
use Rattle.register_records.specs.declared.setups.Form.TheVariants.{Sealed}
use Rattle.page_module.specs.declared.sheet_texts.PutReport.{PutReport}

-- a room for days, and one for calendars
abbrev pub Rooms : Type 0
Rooms = List ℕ × List ℕ

-- the days of entries that are as said were put to the rooms, and how many they are is reported
abbrev pub PutsEntries : (List Numbered → Type 0) → Rooms → Rooms → PutReport → Type 0
PutsEntries AreAsSaid old new report =
    (days : List EntryDay) × HasDays AreAsSaid [] days × PutsDays days old.0 new.0 old.1 new.1
    × (report.length ≡ length days)

-- none were
abbrev pub PutsNoDays : Rooms → Rooms → PutReport → Type 0
PutsNoDays old new report = (report.length ≡ 0) × (new.0 ≡ old.0) × (new.1 ≡ old.1)

-- a register was gone over
pub record GoesOver (reading : Reading) (text : List ℕ) (old new : Rooms) (report : PutReport) : Type 0 where
  -- as a whole: it is accepted, and the days are those of all its entries
  pub whole : report.ending ≡ 0 → ∥ PutsEntries (HasEntries reading (Some text)) old new report ∥₁
  -- else it broke off for a cause, with the days of its first entries, or with none
  pub broken : report.ending ≢ 0 → (c : Cause) × (report.ending ≡ cause_number c)
      × (c ≢ cause.NoThread) × (c ≢ cause.Unconfirmed) × (c ≢ cause.SinkFault)
  pub part : report.ending ≢ 0
      → ∥ PutsNoDays old new report ⊎ PutsEntries (HasFirstEntries reading (Some text)) old new report ∥₁
  pub bad_header : report.ending ≡ cause_number cause.BadHeader → HasNoHeader reading text × PutsNoDays old new report
  pub too_many : report.ending ≡ cause_number cause.TooManyRecords
      → ∥ HasTooMany reading text ∥₁ × (report.length ≡ record_limit)
  pub not_sealed : report.ending ≡ cause_number cause.NotSealed → (reading.form ≡ Sealed)
      × ∥ IsNotSealed reading text ∥₁ × ∥ PutsEntries (HasAllEntries reading (Some text)) old new report ∥₁
