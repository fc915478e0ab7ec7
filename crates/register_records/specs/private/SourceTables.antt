-- How writing the table of a source begins and ends.
use Rattle.std.specs.Prelude.{◌≡◌, ◌≢◌, ℕ, List, [], Option, None, IfSome, length, true}
use Rattle.register_records.specs.Entries.{HasTooMany, IsNotSealed, record_limit}
use Rattle.register_records.specs.Sources.{ArePartOfTable, Gains, IsFrontOfTable, IsTableOfAll, IsWholeTable}
use Rattle.register_records.specs.TablesWritten.{Holds, made_by, made_for, table_fault, waiting_of}
use Rattle.register_records.specs.Views.{layout_of, reading_of}
use Rattle.register_records.specs.declared.ends.Cause.{Cause}
use Rattle.register_records.specs.declared.ends.Cause.TheVariants as cause
use Rattle.register_records.specs.declared.outputs.Output as outputs
use Rattle.register_records.specs.declared.setups.Form.TheVariants.{Sealed}
use Rattle.register_records.specs.declared.setups.Setup.{Setup}
use Rattle.register_records.specs.declared.tables.Table.{Table}

module _ {W : Type 0} (o : outputs.Ghosts W) (setup : Setup) where
  -- a table by this setup for this output, before its heading
  pub record IsNewTable (table : Table W) (output : W) : Type 0 where
    pub same : (made_for table ≡ output) × (made_by table ≡ setup)
    pub goes_on : table_fault table ≡ None
    pub none : waiting_of table ≡ []
    pub empty : Holds o table output []

  module _ (text : Option (List ℕ)) (old new : W) where
    abbrev pub HasGained : (List ℕ → Type 0) → Type 0
    HasGained AreAsSaid = ∥ Gains (o.contents old) (o.contents new) AreAsSaid ∥₁

    -- the output has gained the whole table of the text
    pub record HasWhole (table : Table W) : Type 0 where
      pub goes_on : table_fault table ≡ None
      pub whole : HasGained (IsWholeTable (reading_of setup) (layout_of setup) text table.rows
          (length table.journal.items) table.journal.items)
      pub flushed : o.is_flushed new ≡ true
      pub good : o.has_failed new ≡ o.has_failed old
      pub mark : o.own_mark new ≡ o.own_mark old

    -- it was broken off for this cause
    pub record IsBroken (c : Cause) : Type 0 where
      pub part : (c ≢ cause.SinkFault) → HasGained (ArePartOfTable (reading_of setup) (layout_of setup) text)
      pub too_many : c ≡ cause.TooManyRecords → ∥ IfSome text (λ t. HasTooMany (reading_of setup) t) ∥₁
          × HasGained (IsFrontOfTable (reading_of setup) (layout_of setup) text record_limit)
      pub not_sealed : c ≡ cause.NotSealed → (setup.form ≡ Sealed)
          × ∥ IfSome text (λ t. IsNotSealed (reading_of setup) t) ∥₁
          × HasGained (IsTableOfAll (reading_of setup) (layout_of setup) text)
      pub never : (c ≢ cause.BadHeader) × (c ≢ cause.NoThread) × (c ≢ cause.Unconfirmed)
      pub sink : c ≡ cause.SinkFault → o.has_failed new ≡ true
      pub kept : (c ≢ cause.SinkFault) → o.has_failed new ≡ o.has_failed old
      pub mark : o.own_mark new ≡ o.own_mark old
