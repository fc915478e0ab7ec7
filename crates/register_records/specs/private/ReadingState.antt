-- What a reader of entries has read, and what its next read finds.
use Rattle.std.specs.Prelude.{◌≡◌, ◌≢◌, ◌≤◌, ◌⊎◌, ◌<◌, ◌+◌, ◌++◌, ⊤, Bool, true, false, ℕ, List, [], ◌∷◌, length, Option}
use Rattle.std.specs.Prelude.{Some, None, Ok, OnOk, IfErr, IfSome, IsTrue, Result}
use Rattle.csv.specs.Reading.{has_failed, is_flexible, reader_trim, took_first}
use Rattle.csv.specs.declared.error.ErrorKind.{ErrorKind}
use Rattle.csv.specs.declared.error.ErrorKind.TheVariants as kind
use Rattle.csv.specs.declared.reader.Reader.{Reader}
use Rattle.csv.specs.declared.reader.Trim.TheVariants as trim
use Rattle.register_records.specs.Entries.{Fields, HasEntries, HasRecords, HaveOneDate, Numbered, Reading, body_of}
use Rattle.register_records.specs.Entries.{body_seen, entries_from, record_limit}
use Rattle.register_records.specs.Seals.{Agrees, entry_records, is_seal}
use Rattle.register_records.specs.declared.entries.Entry.{Entry}
use Rattle.register_records.specs.declared.setups.Form.{Form}
use Rattle.register_records.specs.declared.setups.Form.TheVariants.{Plain, Sealed}
use Rattle.register_records.specs.declared.reading.EntryFault.{EntryFault}
use Rattle.register_records.specs.declared.reading.EntryFault.TheVariants as fault
use Rattle.register_records.specs.declared.reading.ReaderState.{ReaderState}
use Rattle.register_records.specs.declared.reading.ReaderState.TheVariants as states
use Rattle.register_records.specs.ReadingState.{records_left}

-- what an error of csv's reader means: a fault of reading, or out of memory; it gives no other here
abbrev pub fault_of : ErrorKind → EntryFault
fault_of (kind.Io e) = fault.ReadFault
fault_of (kind.Utf8 pos err) = fault.OutOfMemory
fault_of (kind.UnequalLengths pos expected len) = fault.OutOfMemory
fault_of (kind.Serialize why) = fault.OutOfMemory
fault_of (kind.Deserialize pos err) = fault.OutOfMemory
fault_of kind.OutOfMemory = fault.OutOfMemory

-- a fault of the reader underneath or of memory
abbrev pub IsOfReading : EntryFault → Type 0
IsOfReading f = (f ≡ fault.ReadFault) ⊎ (f ≡ fault.OutOfMemory)

-- csv's reader has read a record: it changes no field, and takes a record of any number of fields
abbrev pub HasBegun : {R : Type 0} → Reader R → Type 0
HasBegun s = (reader_trim s ≡ trim.None) × (took_first s ≡ true) × (is_flexible s ≡ true)

-- this record was the first of those that were left
abbrev pub TakesFirst : Option (List Fields) → Option (List Fields) → Fields → Type 0
TakesFirst None after r = ⊤
TakesFirst (Some records) None r = ⊥
TakesFirst (Some records) (Some rest) r = records ≡ r ∷ rest

-- a read: the record was the first of those that were left, or none was left
abbrev pub Reads : Option (List Fields) → Option (List Fields) → Bool → Fields → Type 0
Reads left after true r = TakesFirst left after r
Reads left after false r = IfSome left (λ records. records ≡ [])

-- the record is no seal, where the form has seals
abbrev pub IsNoSeal : Form → Fields → Type 0
IsNoSeal Plain r = ⊤
IsNoSeal Sealed r = is_seal r ≡ false

-- the entry after so many is that of the first record that was left
pub record Gives (form : Form) (count : ℕ) (left after : Option (List Fields)) (e : Entry) : Type 0 where
  pub fields : Fields
  pub first : TakesFirst left after fields
  pub no_seal : IsNoSeal form fields
  pub number : e.number ≡ count + 1
  pub body : body_seen e.body ≡ body_of form fields

-- what is left ends a text of so many entries, as the form wants it
abbrev pub EndsAt : Form → ℕ → List Fields → Type 0
EndsAt Plain count records = records ≡ []
EndsAt Sealed count records = (seal : Fields) × (records ≡ seal ∷ []) × IsTrue (is_seal seal) × Agrees seal count

-- some records end it so; where it is known what is left, these are left
abbrev pub Ends : Form → ℕ → Option (List Fields) → Type 0
Ends form count left = (records : List Fields) × EndsAt form count records × IfSome left (λ l. l ≡ records)

-- what is left has no entry, but does not end the text
abbrev pub LacksSeal : Form → ℕ → List Fields → Type 0
LacksSeal form count records = (entry_records form records ≡ []) × ¬ (EndsAt form count records)

-- what is left has an entry
abbrev pub HasEntry : Form → List Fields → Type 0
HasEntry form records = 0 < length (entry_records form records)

-- behind this seal, which agrees with so many entries, such a reader finds no record, or a fault
pub record EndsBehind {S : Type 0} (remaining : S → Option (List ℕ)) (count : ℕ) (seal : Fields) (old new : Reader S)
    (result : Result Bool EntryFault) : Type 0 where
  pub live : OnOk result (HasBegun new)
  pub none : result ≢ Ok true
  pub agrees : OnOk result (Agrees seal count)
  pub last : OnOk result (IfSome (records_left remaining old) (λ left. left ≡ []))
  pub not_sealed : IfErr result (λ e. e ≡ fault.NotSealed
      → IfSome (records_left remaining old) (λ left. left ≡ [] → ¬ (Agrees seal count)))
  pub never : IfErr result (λ e. (e ≢ fault.BadHeader) × (e ≢ fault.Failed) × (e ≢ fault.TooManyRecords))
  pub read_fault : IfErr result (λ e. e ≡ fault.ReadFault → has_failed new ≡ true)

-- a reader of csv that has begun reads the entry after so many into another, or finds an end, or a fault; and it says
-- whether the date is that of what lay there
pub record ReadsEntry {S : Type 0} (remaining : S → Option (List ℕ)) (form : Form) (count : ℕ) (old new : Reader S)
    (before after : Entry) (is_same : Bool) (result : Result Bool EntryFault)
    : Type 0 where
  pub live : OnOk result (HasBegun new)
  pub gives : result ≡ Ok true → Gives form count (records_left remaining old) (records_left remaining new) after
  pub number : result ≡ Ok true → (after.number ≡ count + 1) × (after.number ≤ record_limit)
  pub same : result ≢ Ok true → after ≡ before
  pub same_date : result ≡ Ok true → is_same ≡ true → HaveOneDate (body_seen before.body) (body_seen after.body)
  pub ends : result ≡ Ok false → Ends form count (records_left remaining old)
  pub many : IfErr result (λ e. e ≡ fault.TooManyRecords
      → (count ≡ record_limit) × IfSome (records_left remaining old) (HasEntry form))
  pub not_sealed : IfErr result (λ e. e ≡ fault.NotSealed
      → (form ≡ Sealed) × IfSome (records_left remaining old) (LacksSeal form count))
  pub never : IfErr result (λ e. (e ≢ fault.BadHeader) × (e ≢ fault.Failed))
  pub read_fault : IfErr result (λ e. e ≡ fault.ReadFault → has_failed new ≡ true)

-- these entries are the first of a text, which may be unknown. While no call failed and none found that no entry is
-- left, those of the records that are left follow them; once a call found it so, they are all
pub record HasRead (reading : Reading) (text : Option (List ℕ)) (state : ReaderState) (left : Option (List Fields))
    (given : List Numbered)
    : Type 0 where
  pub past : List Fields
  pub rest : List Fields
  pub accepted : IfSome text (λ t. HasRecords reading t (past ++ rest))
  pub counted : length past ≡ length given
  pub no_seal : (more : List Fields) → entry_records reading.form (past ++ more) ≡ past ++ entry_records reading.form more
  pub followed : (more : List Fields)
      → entries_from reading.form 0 (past ++ more) ≡ given ++ entries_from reading.form (length given) more
  pub left_is : state ≡ states.Open → IfSome text (λ t. left ≡ Some rest)
  pub ended : state ≡ states.Ended → HasEntries reading text given
