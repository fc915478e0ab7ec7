-- The records of a sheet that are read, one after the other.
use Rattle.std.proofs.Common.{◌≡◌, ◌<◌, ◌∙◌, ◌++◌, ◌+◌, ℕ, List, [], ◌∷◌, ap, length, map, set, sym, take, Bor, arith}
use Rattle.std.proofs.Common.{drop, inl, inr, length-append, length-drop, true, Bool, Err, IsErrAnd, Ok, Result}
use Rattle.std.proofs.Common.{◌≤◌, ◌⊎◌, ap₂, false, IfErr, OnOk}
use Rattle.sheets.proofs.Common.{Fields, SheetChoice, AreRecordsRead, DateRead, RecordRead, date_seen}
use Rattle.sheets.proofs.Common.{dated_seen, fields_read, ColumnDates, IsReading, SheetCause, record_limit, given_of}
use Rattle.sheets.proofs.Common.{HasReadSheet}
use Rattle.sheets.specs.private.SheetReaders.{IsFaultBehind, IsGivenOr, records_under}
use Rattle.sheets.specs.private.SheetRecords.{FindsRecord, IsRecordRead}
use Rattle.sheets.specs.declared.sheet_ends.SheetCause.TheVariants as cause
use Rattle.sheets.specs.declared.sheet_reader.SheetReader.{SheetReader}
use Rattle.sheets.specs.declared.sheet_records.SheetRecord.{SheetRecord}
use Rattle.sheets.proofs.ListLemmas.{one_taken}
use Rattle.std.proofs.lemmas.List.{length-map, map-set, map_push, take_all, take_more_set}
use Rattle.std.proofs.lemmas.Simd.{map-map}
use Rattle.csv.specs.Reading.{took_first}
use Rattle.csv.specs.declared.reader.Reader.{Reader}
use Rattle.sheets.specs.private.Reading.{IsBegun}

-- one more is set
pub set_more : {X Y : Type 0} (f : X → Y) (xs : List X) (i : ℕ) (x : X) → i < length xs
    → take (i + 1) (map f (set xs i x)) ≡ take i (map f xs) ++ f x ∷ []
set_more f xs i x lt =
    ap (take (i + 1)) (map-set f xs i x) ∙ take_more_set (map f xs) i (f x) (omega (arith, lt, length-map xs f))

-- a reader that has read a record
pub begun_reads : (records : Reader (Bor (List ℕ))) → IsBegun records → IsReading records
begun_reads records h = ((h.0.0, inl h.0.1, h.0.2), h.1)

pub reads_begun : (records : Reader (Bor (List ℕ))) → IsReading records → took_first records ≡ true → IsBegun records
reads_begun records h first = ((h.0.0, first, h.0.2), h.1)

-- one more record is given
pub given_more : (all left rest : List Fields) (given new : List RecordRead) (one : RecordRead) (count : ℕ)
    → left ≡ drop count all → left ≡ one.fields ∷ rest → fields_read given ≡ take count all → new ≡ given ++ one ∷ []
    → (fields_read new ≡ take (count + 1) all) × (rest ≡ drop (count + 1) all) × (length new ≡ length given + 1)
given_more all left rest given new one count is found first more =
    let taken = one_taken all count one.fields rest (sym is ∙ found) in (
      ap fields_read more ∙ map_push (λ (read : RecordRead). read.fields) given one
          ∙ ap (λ (xs : List Fields). xs ++ one.fields ∷ []) first ∙ sym taken.0,
      sym taken.1,
      ap length more ∙ length-append given (one ∷ []),
    )

-- none is left
pub all_given : (all left : List Fields) (given : List RecordRead) (count : ℕ) → left ≡ drop count all → left ≡ []
    → fields_read given ≡ take count all → fields_read given ≡ all
all_given all left given count is none first =
    first ∙ take_all count all (omega (arith, length-drop count all, ap length (sym is ∙ none)))

-- more are left
pub more_than : (all left : List Fields) (count : ℕ) → left ≡ drop count all → 0 < length left → count < length all
more_than all left count is some = omega (arith, length-drop count all, ap length is)

-- no more was given, since a fault was met
pub not_given : (choice : SheetChoice) (count : ℕ) (left : List Fields) (reader : Reader (Bor (List ℕ)))
    (of_sheet : SheetRecord) (records : List Fields) (given : List RecordRead) (c : SheetCause) → length given ≡ count
    → left ≡ drop count records → FindsRecord choice count left reader of_sheet (Err c) → IsFaultBehind records given c
not_given choice count left reader of_sheet records given cause.NoMemory many is found = tt
not_given choice count left reader of_sheet records given cause.TooManyRecords many is full =
    (many ∙ full.0, omega (arith, full.0, more_than records left count is full.1))
not_given choice count left reader of_sheet records given other many is found = absurd found

-- a fault of reading was handed on
pub not_found : (choice : SheetChoice) (count : ℕ) (left : List Fields) (records : Reader (Bor (List ℕ)))
    (of_sheet : SheetRecord) (result : Result Bool SheetCause) → IsErrAnd result (λ c. c ≡ cause.NoMemory)
    → FindsRecord choice count left records of_sheet result
not_found choice count left records of_sheet (Ok found) is = absurd is
not_found choice count left records of_sheet (Err c) is = rw is tt

-- what a reader has given, as it was read until there was no more, or a fault
module _ (choice : SheetChoice) (records : List Fields) (reader new : SheetReader) (under : records_under reader ≡ records)
    (still : records_under new ≡ records_under reader) (read : AreRecordsRead choice 0 (given_of reader)) where
  first_read : fields_read (given_of reader) ≡ take (length (given_of reader)) records
  first_read = reader.first ∙ ap₂ take (sym reader.counted) under

  few_read : length (given_of reader) ≤ record_limit
  few_read = omega (arith, reader.counted, reader.few)

  ended : (result : Result (Unit {0}) SheetCause) → OnOk result (fields_read (given_of reader) ≡ records)
      → IfErr result (λ c. c ≡ cause.TooManyRecords
      → (length (given_of reader) ≡ record_limit) × (record_limit < length records))
      → IfErr result (λ c. (c ≡ cause.NoMemory) ⊎ (c ≡ cause.TooManyRecords))
      → HasReadSheet choice records (given_of reader) result
  ended result all many causes =
      record { read = read; first = first_read; few = few_read; all = all; many = many; causes = causes }

  pub has_read : IsGivenOr reader new (Ok false) → HasReadSheet {A = Unit {0}} choice records (given_of reader) (Ok tt)
  has_read given = ended (Ok tt) (ap fields_read (sym given.0) ∙ given.1 ∙ still ∙ under) tt tt

  pub has_stopped : (e : SheetCause) (result : Result (Unit {0}) SheetCause) → IsErrAnd result (λ c. c ≡ e)
      → IsGivenOr reader new (Err e) → HasReadSheet choice records (given_of reader) result
  has_stopped e (Ok v) is given = absurd is
  has_stopped cause.NoMemory (Err c) is given = ended (Err c) tt (λ many. absurd (cc (is, many))) (inl is)
  has_stopped cause.TooManyRecords (Err c) is given =
      ended (Err c) tt
      (λ many. (ap length (sym given.0) ∙ given.1.0, omega (arith, given.1.1, ap length (still ∙ under)))) (inr is)
  has_stopped other (Err c) is given = absurd given.1

-- what the columns have
pub rows_in : (columns : List ColumnDates)
    → map (λ (date : DateRead). date.dated) (map date_seen columns) ≡ map dated_seen columns
rows_in columns = map-map (λ (date : DateRead). date.dated) date_seen columns

-- one more record is read as it is to be
pub reads_more : (choice : SheetChoice) (k : ℕ) (reads : List RecordRead) (one : RecordRead)
    → one.number ≡ k + length reads + 1 → AreRecordsRead choice k reads → IsRecordRead choice one
    → AreRecordsRead choice k (reads ++ one ∷ [])
reads_more choice k [] one e h is = (omega arith, is, tt)
reads_more choice k (read ∷ reads) one e h is = (h.0, h.1, reads_more choice (k + 1) reads one (omega arith) h.2 is)
