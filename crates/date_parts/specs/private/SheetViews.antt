-- What a clause sees of a sheet that is being written.
use Rattle.std.specs.Prelude.{◌≡◌, ◌++◌, ◌∷◌, [], ℕ, List, Some, Vec, false, true}
use Rattle.std.specs.declared.alloc.Global.{Global}
use Rattle.csv.specs.Writing.{default_writer, fields_written, has_written, text_written, with_delimiter, with_flexible}
use Rattle.csv.specs.Writing.{writer_setup}
use Rattle.csv.specs.declared.writer.Writer.{Writer}
use Rattle.csv.specs.declared.writer.WriterBuilder.{WriterBuilder}
use Rattle.register_records.specs.Entries.{Fields}
use Rattle.sheets.specs.Sheets.{records_text}
use Rattle.date_parts.specs.declared.joined_sheets.JoinedSheet.{JoinedSheet}

-- as csv writes by its defaults, with this delimiter and with records of any length
abbrev pub writing : ℕ → WriterBuilder
writing delimiter = with_flexible (with_delimiter default_writer delimiter) true

-- the text so far is this, and no record is begun
pub record Holds (delimiter : ℕ) (text : List ℕ) (sheet : Writer (Vec ℕ Global)) : Type 0 where
  pub written : text_written (λ bytes. Some bytes.items) sheet ≡ Some text
  pub setup : writer_setup sheet ≡ writing delimiter
  pub fields : fields_written sheet ≡ 0
  pub wrote : has_written sheet ≡ false

-- these records were appended, and no other column is written than before
pub record GainsRecords (records : List Fields) (old new : JoinedSheet) : Type 0 where
  pub text : (delimiter : ℕ) (text : List ℕ) → Holds delimiter text old.sheet
      → Holds delimiter (text ++ records_text delimiter records) new.sheet
  pub places : new.places ≡ old.places
  pub width : new.width ≡ old.width

abbrev pub GainsRecord : Fields → JoinedSheet → JoinedSheet → Type 0
GainsRecord fields = GainsRecords (fields ∷ [])
