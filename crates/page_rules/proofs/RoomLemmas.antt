-- From an empty output that gained bytes to a room that they were put to.
use Rattle.std.proofs.Common.{◌≡◌, ◌≢◌, ◌∙◌, ℕ, List, [], length, refl, sym, Some, inl, inr}
use Rattle.std.specs.Prelude.{◌⊎◌}
use Rattle.std.proofs.Math.Dec.{leb-zero}
use Rattle.std.proofs.Math.Logic.{∥∥₁_map}
use Rattle.std.proofs.lemmas.Grind.{merely}
use Rattle.register_records.specs.Entries.{HasNoHeader, HasTooMany, IsNotSealed, Reading, record_limit}
use Rattle.register_records.specs.Sources.{ArePartOfTable, Gains, IfBroken, IfWhole, IsFrontOfTable, IsTableOfAll}
use Rattle.register_records.specs.Sources.{IsWholeTable}
use Rattle.register_records.specs.Tables.{Layout}
use Rattle.register_records.specs.declared.setups.Form.TheVariants.{Sealed}
use Rattle.register_records.specs.declared.ends.Cause.{Cause}
use Rattle.register_records.specs.declared.ends.Cause.TheVariants as cause
use Rattle.register_records.specs.declared.ends.SourceEnd.{SourceEnd}
use Rattle.register_records.specs.declared.ends.SourceEnd.TheVariants as end
use Rattle.page_rules.specs.private.Conversions.{sound_part}
use Rattle.page_rules.specs.Rooms.{Puts, with_front}

puts : (P : List ℕ → Type 0) (table old : List ℕ) → Gains (Some []) (Some table) P
    → Puts old (with_front table old) (length table) P
puts P table old (bytes, are, gained) = (table, rw gained are, refl, refl)

may_put : (P : List ℕ → Type 0) (table old new : List ℕ) (count : ℕ) → new ≡ with_front table old
    → count ≡ length table → ∥ Gains (Some []) (Some table) P ∥₁ → ∥ Puts old new count P ∥₁
may_put P table old new count put counted h = rw (put, counted) (∥∥₁_map h (puts P table old))

-- no byte leaves a room as it was
front_of_none : (room : List ℕ) → with_front [] room ≡ room
front_of_none room = rw (leb-zero (length room)) refl

-- all bytes are sound, or memory ran out for them
is_sound : (c : Cause) (made : List ℕ) → (c ≡ cause.SinkFault) ⊎ ((c ≢ cause.SinkFault)
    × (sound_part (end.Broken c) made ≡ made))
is_sound cause.NoMemory made = inr ((λ e. cc), refl)
is_sound cause.NoThread made = inr ((λ e. cc), refl)
is_sound cause.Unconfirmed made = inr ((λ e. cc), refl)
is_sound cause.SinkFault made = inl refl
is_sound cause.ReadFault made = inr ((λ e. cc), refl)
is_sound cause.BadHeader made = inr ((λ e. cc), refl)
is_sound cause.TooManyRecords made = inr ((λ e. cc), refl)
is_sound cause.NotSealed made = inr ((λ e. cc), refl)

pub whole_put : (reading : Reading) (layout : Layout) (text : List ℕ) (e : SourceEnd) (made old new : List ℕ) (count : ℕ)
    → new ≡ with_front (sound_part e made) old → count ≡ length (sound_part e made)
    → IfWhole e (λ rows refused journal. ∥ Gains (Some []) (Some made)
    (IsWholeTable reading layout (Some text) rows refused journal) ∥₁)
    → IfWhole e (λ rows refused journal. ∥ Puts old new count
    (IsWholeTable reading layout (Some text) rows refused journal) ∥₁)
whole_put reading layout text (end.Whole rows refused journal) made old new count put counted h =
    may_put _ made old new count put counted h
whole_put reading layout text (end.Broken c) made old new count put counted h = tt

pub part_put : (reading : Reading) (layout : Layout) (text : List ℕ) (e : SourceEnd) (made old new : List ℕ) (count : ℕ)
    → new ≡ with_front (sound_part e made) old → count ≡ length (sound_part e made)
    → IfBroken e (λ c. (c ≢ cause.SinkFault) → ∥ Gains (Some []) (Some made) (ArePartOfTable reading layout (Some text)) ∥₁)
    → IfBroken e (λ c. ∥ Puts old new count (ArePartOfTable reading layout (Some text)) ∥₁)
part_put reading layout text (end.Whole rows refused journal) made old new count put counted h = tt
part_put reading layout text (end.Broken c) made old new count put counted h =
    elim (is_sound c made) [
      | inl sink ↦ merely ([], inl refl, sym (rw sink at counted), rw sink at put)
      | inr sound ↦ may_put _ made old new count (rw sound.1 at put) (rw sound.1 at counted) (h sound.0)
    ]

pub nothing_put : (e : SourceEnd) (made old new : List ℕ) (count : ℕ)
    → new ≡ with_front (sound_part e made) old → count ≡ length (sound_part e made)
    → IfBroken e (λ c. c ≡ cause.SinkFault → (count ≡ 0) × (new ≡ old))
nothing_put (end.Whole rows refused journal) made old new count put counted = tt
nothing_put (end.Broken c) made old new count put counted =
    λ sink. (rw sink at counted, (rw sink at put) ∙ front_of_none old)

pub header_put : (reading : Reading) (layout : Layout) (text : List ℕ) (e : SourceEnd) (made old new : List ℕ) (count : ℕ)
    → new ≡ with_front (sound_part e made) old → count ≡ length (sound_part e made)
    → IfBroken e (λ c. c ≡ cause.BadHeader → (made ≡ []) × HasNoHeader reading text)
    → IfBroken e (λ c. c ≡ cause.BadHeader → HasNoHeader reading text × (count ≡ 0) × (new ≡ old))
header_put reading layout text (end.Whole rows refused journal) made old new count put counted h = tt
header_put reading layout text (end.Broken c) made old new count put counted h = λ bad.
    let none : made ≡ [] = (h bad).0 in
    ((h bad).1, rw (bad, none) at counted, (rw (bad, none) at put) ∙ front_of_none old)

pub many_put : (reading : Reading) (layout : Layout) (text : List ℕ) (e : SourceEnd) (made old new : List ℕ) (count : ℕ)
    → new ≡ with_front (sound_part e made) old → count ≡ length (sound_part e made)
    → IfBroken e (λ c. c ≡ cause.TooManyRecords → ∥ HasTooMany reading text ∥₁
    × ∥ Gains (Some []) (Some made) (IsFrontOfTable reading layout (Some text) record_limit) ∥₁)
    → IfBroken e (λ c. c ≡ cause.TooManyRecords → ∥ HasTooMany reading text ∥₁
    × ∥ Puts old new count (IsFrontOfTable reading layout (Some text) record_limit) ∥₁)
many_put reading layout text (end.Whole rows refused journal) made old new count put counted h = tt
many_put reading layout text (end.Broken c) made old new count put counted h = λ many.
    ((h many).0, may_put _ made old new count (rw many at put) (rw many at counted) (h many).1)

pub sealed_put : (reading : Reading) (layout : Layout) (text : List ℕ) (e : SourceEnd) (made old new : List ℕ) (count : ℕ)
    → new ≡ with_front (sound_part e made) old → count ≡ length (sound_part e made)
    → IfBroken e (λ c. c ≡ cause.NotSealed → (reading.form ≡ Sealed) × ∥ IsNotSealed reading text ∥₁
    × ∥ Gains (Some []) (Some made) (IsTableOfAll reading layout (Some text)) ∥₁)
    → IfBroken e (λ c. c ≡ cause.NotSealed → (reading.form ≡ Sealed) × ∥ IsNotSealed reading text ∥₁
    × ∥ Puts old new count (IsTableOfAll reading layout (Some text)) ∥₁)
sealed_put reading layout text (end.Whole rows refused journal) made old new count put counted h = tt
sealed_put reading layout text (end.Broken c) made old new count put counted h = λ lacks. (
  (h lacks).0,
  (h lacks).1,
  may_put _ made old new count (rw lacks at put) (rw lacks at counted) (h lacks).2,
)

-- what follows from each cause
pub if_broken : (e : SourceEnd) (P Q : Cause → Type 0) → ((c : Cause) → P c → Q c) → IfBroken e P → IfBroken e Q
if_broken (end.Whole rows refused journal) P Q f h = tt
if_broken (end.Broken c) P Q f h = f c h
