-- What a run promises of each source.
use Rattle.std.specs.Prelude.{◌≡◌, ◌⊎◌, ℕ, List, [], ◌∷◌, Option, None, IfSome, ⊤, true, false}
use Rattle.std.specs.List.{Contains}
use Rattle.register_records.specs.Entries.{HasAllEntries, HasNoHeader, HasTooMany, IsNotSealed, Reading, record_limit}
use Rattle.register_records.specs.Sources.{ArePartOfTable, Gains, IsFrontOfTable, IsTableOfAll, IsWholeTable}
use Rattle.register_records.specs.Tables.{Layout}
use Rattle.register_records.specs.declared.outputs.Output as outputs
use Rattle.register_records.specs.declared.setups.Form.TheVariants.{Sealed}
use Rattle.register_records.specs.declared.ends.Cause.{Cause}
use Rattle.register_records.specs.declared.ends.Cause.TheVariants as cause
use Rattle.register_records.specs.declared.ends.Note.{Note}
use Rattle.register_records.specs.declared.ends.SourceEnd.{SourceEnd}
use Rattle.register_records.specs.declared.ends.SourceEnd.TheVariants as ended

-- the lists have one length, and for each number this holds of the source, its output as it was handed in and as it is
-- handed back, and its end
abbrev pub AtEachPlace : {R W E : Type 0} → (R → W → W → E → Type 0) → List R → List W → List W → List E → Type 0
AtEachPlace Holds [] [] [] [] = ⊤
AtEachPlace Holds (r ∷ rs) (g ∷ gs) (w ∷ ws) (e ∷ es) = Holds r g w e × AtEachPlace Holds rs gs ws es
AtEachPlace Holds sources given written ends = ⊥

-- the reader alone gives these causes
abbrev pub causes_of_reading : List Cause
causes_of_reading = cause.ReadFault ∷ cause.BadHeader ∷ cause.TooManyRecords ∷ cause.NotSealed ∷ []

-- these bytes are the heading and the rows of all entries of the text, or none where it has no entry
abbrev pub IsAllOfTable : Reading → Layout → Option (List ℕ) → List ℕ → Type 0
IsAllOfTable reading layout text bytes =
    ((bytes ≡ []) × HasAllEntries reading text []) ⊎ IsTableOfAll reading layout text bytes

-- the output of a source with this text, as it was handed in and as it is handed back, where its bytes are known
module _ {W : Type 0} (o : outputs.Ghosts W) (reading : Reading) (layout : Layout) (text : Option (List ℕ))
    (given written : W) where
  -- the source is whole: the output has gained the table of the text, and nothing else; all that it took was handed on,
  -- and it has failed no more than before
  pub record IsWhole (rows refused : ℕ) (journal : List Note) : Type 0 where
    pub table : Gains (o.contents given) (o.contents written) (IsWholeTable reading layout text rows refused journal)
    pub flushed : o.is_flushed written ≡ true
    pub good : o.has_failed written ≡ o.has_failed given

  -- the source is broken for this cause. With too many records the first 1,000,000 were converted, and without a seal
  -- that agrees all above it. In a table of no known text the rows are in the order of their numbers, from 1, and each
  -- is the row of the entry that it carries
  pub record IsBroken (c : Cause) : Type 0 where
    pub part : Contains causes_of_reading c → Gains (o.contents given) (o.contents written) (ArePartOfTable reading layout text)
    pub kept : Contains causes_of_reading c → o.has_failed written ≡ o.has_failed given
    pub bad_header : c ≡ cause.BadHeader → IfSome text (HasNoHeader reading)
    pub too_many : c ≡ cause.TooManyRecords → IfSome text (HasTooMany reading)
        × Gains (o.contents given) (o.contents written) (IsFrontOfTable reading layout text record_limit)
    pub not_sealed : c ≡ cause.NotSealed → (reading.form ≡ Sealed) × IfSome text (IsNotSealed reading)
        × Gains (o.contents given) (o.contents written) (IsAllOfTable reading layout text)
    pub in_order : o.has_failed written ≡ false
        → Gains (o.contents given) (o.contents written) (ArePartOfTable reading layout None)
    pub sink : c ≡ cause.SinkFault → o.has_failed written ≡ true

  -- the source has ended so
  abbrev pub IsSourceEnd : SourceEnd → Type 0
  IsSourceEnd (ended.Whole rows refused journal) = IsWhole rows refused journal.items
  IsSourceEnd (ended.Broken c) = IsBroken c
