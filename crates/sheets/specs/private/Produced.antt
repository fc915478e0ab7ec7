-- The lines that one output has got by a reading of a sheet.
use Rattle.std.specs.Prelude.{◌≡◌, ◌≢◌, ℕ, Bool, IsOk, OnOk, false, List, Result, Err, take, true}
use Rattle.register_records.specs.Entries.{Fields}
use Rattle.sheets.specs.Sheets.{records_text}
use Rattle.sheets.specs.declared.sheet_ends.SheetCause.{SheetCause}
use Rattle.sheets.specs.declared.sheet_ends.SheetCause.TheVariants as cause

-- these bytes are these lines; or, where memory ran out, the first of them
abbrev pub AreLines : {A : Type 0} → ℕ → List Fields → Result A SheetCause → List ℕ → Type 0
AreLines delimiter made (Err cause.NoMemory) bytes = (count : ℕ) × (bytes ≡ records_text delimiter (take count made))
AreLines delimiter made result bytes = bytes ≡ records_text delimiter made

-- memory ran out
abbrev pub lacks_memory : {A : Type 0} → Result A SheetCause → Bool
lacks_memory (Err cause.NoMemory) = true
lacks_memory result = false

-- the lines of one output came out so, by a reading that ended so
pub record Agrees (read result : Result (Unit {0}) SheetCause) : Type 0 where
  pub all : OnOk result (IsOk read)
  pub many : result ≡ Err cause.TooManyRecords → read ≡ Err cause.TooManyRecords
  pub named : result ≢ Err cause.NoNames
