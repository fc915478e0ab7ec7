-- What asking a reader for the next entry gives.
use Rattle.std.specs.Prelude.{◌≡◌, ◌≢◌, ◌+◌, ◌≤◌, ◌++◌, ◌∷◌, [], Bool, true, false, length, IfErr, IfSome, OnErr}
use Rattle.std.specs.Prelude.{Err, None, Ok, Option, Result, Some, is_err}
use Rattle.std.specs.declared.io.traits.Read.{Ghosts}
use Rattle.register_records.specs.Entries.{HasAllEntries, HasEntries, HasTooMany, IsNotSealed, record_limit}
use Rattle.register_records.specs.Seen.{entry_seen}
use Rattle.register_records.specs.Views.{given_of, reader_ended, reader_failed, reads_by, text_of}
use Rattle.register_records.specs.declared.entries.Entry.{Entry}
use Rattle.register_records.specs.declared.reading.EntryFault.{EntryFault}
use Rattle.register_records.specs.declared.reading.EntryFault.TheVariants as fault
use Rattle.register_records.specs.declared.reading.EntryReader.{EntryReader}
use Rattle.register_records.specs.declared.setups.Form.TheVariants.{Sealed}

-- the next entry was read into this one, or there was none at the end of the text, or a fault
pub record ReadsNext {R : Type 0} {g : Ghosts R} (old new : EntryReader R g) (entry : Entry)
    (result : Result Bool EntryFault) : Type 0 where
  -- the entries given gain the entry, and nothing else
  pub gives : result ≡ Ok true → given_of new ≡ given_of old ++ entry_seen entry ∷ []
  pub number : result ≡ Ok true → (entry.number ≡ length (given_of old) + 1) × (entry.number ≤ record_limit)
  pub kept : OnErr result (given_of new ≡ given_of old)
  pub text : (text_of new ≡ text_of old) × (reads_by new ≡ reads_by old)
  -- at the end they are all of the text, and at a seal that does not close it, all above the seal
  pub ends : result ≡ Ok false → (reader_ended new ≡ true) × (given_of new ≡ given_of old)
  pub all : result ≡ Ok false → ∥ HasEntries (reads_by new) (text_of new) (given_of new) ∥₁
  pub many : IfErr result (λ e. e ≡ fault.TooManyRecords → (length (given_of old) ≡ record_limit)
      × ∥ IfSome (text_of new) (λ text. HasTooMany (reads_by new) text) ∥₁)
  pub not_sealed : IfErr result (λ e. e ≡ fault.NotSealed → ((reads_by new).form ≡ Sealed)
      × ∥ IfSome (text_of new) (λ text. IsNotSealed (reads_by new) text) ∥₁)
  pub above : IfErr result (λ e. e ≡ fault.NotSealed
      → ∥ HasAllEntries (reads_by new) (text_of new) (given_of new) ∥₁)
  -- after a fault the reader has failed
  pub fails : reader_failed new ≡ is_err result
  pub only_failed : reader_failed old ≡ false → IfErr result (λ e. e ≢ fault.Failed)
  pub no_header : IfErr result (λ e. e ≢ fault.BadHeader)

-- the next entry is returned, or there was none at the end of the text, or a fault
abbrev pub ReturnsNext : {R : Type 0} {g : Ghosts R} → EntryReader R g → EntryReader R g
    → Result (Option Entry) EntryFault → Type 0
ReturnsNext old new (Ok (Some entry)) = ReadsNext old new entry (Ok true)
ReturnsNext old new (Ok None) = (entry : Entry) → ReadsNext old new entry (Ok false)
ReturnsNext old new (Err fault) = (entry : Entry) → ReadsNext old new entry (Err fault)
