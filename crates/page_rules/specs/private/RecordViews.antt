-- What a clause sees of `RecordLines`.
use Rattle.std.specs.Prelude.{◌≡◌, ◌≤◌, ◌+◌, ℕ, true, false, List, [], get_or, length, take}
use Rattle.csv.specs.Writing.{default_writer, fields_written, has_written, with_delimiter, with_flexible, writer_pending}
use Rattle.csv.specs.Writing.{writer_setup, writer_under}
use Rattle.csv.specs.declared.writer.WriterBuilder.{WriterBuilder}
use Rattle.register_records.specs.Entries.{Fields}
use Rattle.sheets.specs.Sheets.{records_text}
use Rattle.page_rules.specs.declared.lines.RecordLines.{RecordLines}

-- as csv writes by its defaults, with this delimiter and with records of any length
abbrev pub writing : ℕ → WriterBuilder
writing delimiter = with_flexible (with_delimiter default_writer delimiter) true

-- where each line begins, and where the last ends
pub record AreBounds (delimiter : ℕ) (records : List Fields) (bounds : List ℕ) : Type 0 where
  pub count : length bounds ≡ length records + 1
  pub at : (i : ℕ) → i ≤ length records → get_or bounds i 0 ≡ length (records_text delimiter (take i records))

-- the lines are those of these records, and none is begun
pub record HasLines (delimiter : ℕ) (records : List Fields) (lines : RecordLines) : Type 0 where
  pub setup : writer_setup lines.writer ≡ writing delimiter
  pub text : (writer_under lines.writer).items ≡ records_text delimiter records
  pub pending : writer_pending lines.writer ≡ []
  pub fields : fields_written lines.writer ≡ 0
  pub wrote : has_written lines.writer ≡ false
  pub bounds : AreBounds delimiter records lines.bounds.items
