-- The records and the entries of a text.
use Rattle.std.specs.Prelude.{◌≡◌, ◌≤◌, ◌<◌, ◌+◌, ◌++◌, ⊤, ◌&&◌, Bool, true, nat_le, nat_lt, ℕ, List, [], ◌∷◌}
use Rattle.std.specs.Prelude.{length, Option, IfSome, Result, Ok, Err, if◌then◌else◌}
use Rattle.std.specs.Option.{option_map_or}
use Rattle.std.specs.Str.{is_utf8}
use Rattle.csv.specs.Reading.{default_config, records, strip_bom}
use Rattle.register_records.specs.Headers.{IsHeader}
pub use Rattle.register_records.specs.Records.{Fields, Texts, texts_of}
use Rattle.register_records.specs.Seals.{AreClosed, entry_records}
use Rattle.date_texts.specs.Refusals.{refusal_number}
use Rattle.date_texts.specs.declared.refusal.Refusal.{Refusal}
use Rattle.date_texts.specs.declared.refusal.Refusal.TheVariants as refusal
use Rattle.register_records.specs.declared.entries.Body.{Body}
use Rattle.register_records.specs.declared.entries.Body.TheVariants as body
use Rattle.register_records.specs.declared.setups.Form.{Form}

-- how a register is read: the byte between two fields, and the form
pub record Reading : Type 0 where
  pub delimiter : ℕ
  pub form : Form

-- the records that csv defines for a text, by its defaults with this delimiter
abbrev pub text_records : ℕ → List ℕ → List Fields
text_records delimiter text = records (record default_config { delimiter = delimiter }) (strip_bom text)

-- the first of the records is an accepted header, and these follow it
abbrev pub AreAfterHeader : Form → List Fields → List Fields → Type 0
AreAfterHeader form records after = (header : Fields) × (records ≡ header ∷ after) × IsHeader form header

-- the first record of the text is an accepted header, and these records follow it
abbrev pub HasRecords : Reading → List ℕ → List Fields → Type 0
HasRecords reading text after = AreAfterHeader reading.form (text_records reading.delimiter text) after

-- the first record of the text is no accepted header, or there is none
abbrev pub HasNoHeader : Reading → List ℕ → Type 0
HasNoHeader reading text = (after : List Fields) → HasRecords reading text after → ⊥

-- no text is over its limit in bytes
abbrev pub are_short : Texts → Bool
are_short t =
    nat_le (length t.id) 40 && nat_le (length t.calendar) 16 && nat_le (length t.date) 32 && nat_le (length t.note) 80

abbrev pub are_utf8 : Texts → Bool
are_utf8 t = is_utf8 t.id && is_utf8 t.calendar && is_utf8 t.date && is_utf8 t.note

-- the body of a record with as many fields as the form wants: its texts as they stand, or the first refusal that
-- applies
abbrev pub body_of_texts : Texts → Result Texts Refusal
body_of_texts t =
    if are_short t then (if are_utf8 t then Ok t else Err refusal.NotUtf8) else Err refusal.FieldTooLong

-- the body of a record
abbrev pub body_of : Form → Fields → Result Texts Refusal
body_of form fields = option_map_or body_of_texts (texts_of form fields) (Err refusal.FieldCount)

-- what a clause sees of an entry's body
abbrev pub body_seen : Body → Result Texts Refusal
body_seen (body.Fields id calendar date note) =
    Ok (record { id = id.bytes; calendar = calendar.bytes; date = date.bytes; note = note.bytes })
body_seen (body.Refused r) = Err r

-- two bodies have the same calendar's name and the same date
abbrev pub HaveOneDate : Result Texts Refusal → Result Texts Refusal → Type 0
HaveOneDate (Ok t) (Ok u) = (t.calendar ≡ u.calendar) × (t.date ≡ u.date)
HaveOneDate body other = ⊥

-- a body holds texts, or one of the refusals 1 to 3, which come before a calendar is looked for
abbrev pub may_hold : Body → Bool
may_hold (body.Fields id calendar date note) = true
may_hold (body.Refused r) = nat_le (refusal_number r) 3

-- texts within their limits that are UTF-8, or one of those refusals
abbrev pub are_fit : Result Texts Refusal → Bool
are_fit (Ok t) = are_short t && are_utf8 t
are_fit (Err r) = nat_le (refusal_number r) 3

-- an entry: its number, and its body
pub record Numbered : Type 0 where
  pub number : ℕ
  pub body : Result Texts Refusal

-- the most entries of a source
abbrev pub record_limit : ℕ
record_limit = 1000000

-- the entries of these records, the first of which has the number after k; there is none past the limit
unfoldable pub entries_from : Form → ℕ → List Fields → List Numbered
entries_from form k [] = []
entries_from form k (r ∷ rest) =
    if nat_lt k record_limit then record { number = k + 1; body = body_of form r } ∷ entries_from form (k + 1) rest
    else []

-- the entries of a text, by the records after its header
abbrev pub entries_of : Form → List Fields → List Numbered
entries_of form after = entries_from form 0 (entry_records form after)

-- the records after an accepted header are all that a text may have: not too many, and closed as the form wants it
abbrev pub AreAll : Form → List Fields → Type 0
AreAll form after = (length (entry_records form after) ≤ record_limit) × AreClosed form after

-- a text of these records is accepted
abbrev pub AreAccepted : Form → List Fields → Type 0
AreAccepted form records = (after : List Fields) × AreAfterHeader form records after × AreAll form after

-- the text is accepted, and these are its entries. A text may be unknown: then they are those of some records that
-- could follow an accepted header and are all that a text may have
abbrev pub HasEntries : Reading → Option (List ℕ) → List Numbered → Type 0
HasEntries reading text entries =
    (after : List Fields) × IfSome text (λ t. HasRecords reading t after) × AreAll reading.form after
    × (entries ≡ entries_of reading.form after)

-- the text has an accepted header, and these are all its entries, be it accepted or not; where it is unknown, they are
-- those of some records
abbrev pub HasAllEntries : Reading → Option (List ℕ) → List Numbered → Type 0
HasAllEntries reading text entries =
    (after : List Fields) × IfSome text (λ t. HasRecords reading t after) × (entries ≡ entries_of reading.form after)

-- these are the first of them
abbrev pub HasFirstEntries : Reading → Option (List ℕ) → List Numbered → Type 0
HasFirstEntries reading text entries = (rest : List Numbered) × HasAllEntries reading text (entries ++ rest)

-- these entries are numbered in order, the first with this number
abbrev pub AreNumberedFrom : ℕ → List Numbered → Type 0
AreNumberedFrom k [] = ⊤
AreNumberedFrom k (entry ∷ entries) = (entry.number ≡ k) × AreNumberedFrom (k + 1) entries

-- more records follow the accepted header of the text than a source may have, and none of them is a seal
abbrev pub HasTooMany : Reading → List ℕ → Type 0
HasTooMany reading text =
    (after : List Fields) × HasRecords reading text after × (record_limit < length (entry_records reading.form after))

-- the text has an accepted header and not too many records, but they are not closed as the form wants it
abbrev pub IsNotSealed : Reading → List ℕ → Type 0
IsNotSealed reading text =
    (after : List Fields) × HasRecords reading text after × (length (entry_records reading.form after) ≤ record_limit)
    × ¬ (AreClosed reading.form after)
