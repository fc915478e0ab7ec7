-- A reader of a sheet's records: what it has given, and what a read does.
use Rattle.std.specs.Prelude.{◌≡◌, ◌+◌, ◌++◌, ◌<◌, ◌∷◌, ⊤, [], Bool, true, false, Err, List, Ok, Result, length}
use Rattle.register_records.specs.Entries.{Fields, record_limit}
use Rattle.sheets.specs.Reading.{left_of}
use Rattle.sheets.specs.private.SheetRecords.{IsRecordRead, RecordRead, fields_read, record_read}
use Rattle.sheets.specs.declared.choices.SheetChoice.{SheetChoice}
use Rattle.sheets.specs.declared.choices.SheetSetup.{SheetSetup}
use Rattle.sheets.specs.declared.sheet_ends.SheetCause.{SheetCause}
use Rattle.sheets.specs.declared.sheet_ends.SheetCause.TheVariants as cause
use Rattle.sheets.specs.declared.sheet_reader.SheetReader.{SheetReader}

-- the choice that it reads by, the records that it was opened on, and those that it gave so far
abbrev pub choice_of : SheetReader → SheetChoice
choice_of reader = reader.setup.choice

abbrev pub records_under : SheetReader → List Fields
records_under reader = left_of reader.opened.value

abbrev pub given_of : SheetReader → List RecordRead
given_of reader = reader.given

-- no call found an end or a fault
abbrev pub goes_on : SheetReader → Bool
goes_on reader = reader.is_going

-- it goes by this setup over these records, of which none was given yet
pub record IsOpened (setup : SheetSetup) (records : List Fields) (reader : SheetReader) : Type 0 where
  pub goes_by : reader.setup ≡ setup
  pub over : records_under reader ≡ records
  pub none_given : given_of reader ≡ []
  pub goes : goes_on reader ≡ true

-- the next record was given, with what is to be read of it
pub record IsGiven (old new : SheetReader) : Type 0 where
  pub gives : given_of new ≡ given_of old ++ record_read new.of_sheet ∷ []
  pub read : IsRecordRead (choice_of new) (record_read new.of_sheet)
  pub number : new.of_sheet.number ≡ length (given_of old) + 1
  pub few : length (given_of old) < record_limit
  pub goes : goes_on new ≡ true

-- memory ran out, or as many records were given as may be, and there are more
abbrev pub IsFaultBehind : List Fields → List RecordRead → SheetCause → Type 0
IsFaultBehind records given cause.NoMemory = ⊤
IsFaultBehind records given cause.TooManyRecords =
    (length given ≡ record_limit) × (record_limit < length records)
IsFaultBehind records given other = ⊥

-- so it was; or there is none, and those given are all; or a fault was met
abbrev pub IsGivenOr : SheetReader → SheetReader → Result Bool SheetCause → Type 0
IsGivenOr old new (Ok true) = IsGiven old new
IsGivenOr old new (Ok false) = (given_of new ≡ given_of old) × (fields_read (given_of new) ≡ records_under new)
IsGivenOr old new (Err c) = (given_of new ≡ given_of old) × IsFaultBehind (records_under new) (given_of new) c

-- a read did so, and changed nothing else
pub record ReadsRecord (old new : SheetReader) (result : Result Bool SheetCause) : Type 0 where
  pub setup : new.setup ≡ old.setup
  pub records : records_under new ≡ records_under old
  pub given : IsGivenOr old new result
