-- What a clause sees of a sheet that is being written.
use Rattle.std.specs.Prelude.{◌≡◌, ℕ, List, Some, Vec, false}
use Rattle.std.specs.declared.alloc.Global.{Global}
use Rattle.csv.specs.Writing.{default_writer, fields_written, has_written, text_written, writer_setup}
use Rattle.csv.specs.declared.writer.Writer.{Writer}

-- the text so far is this, of whole records, as csv writes them by its defaults
pub record Holds (text : List ℕ) (sheet : Writer (Vec ℕ Global)) : Type 0 where
  pub written : text_written (λ bytes. Some bytes.items) sheet ≡ Some text
  pub setup : writer_setup sheet ≡ default_writer
  pub fields : fields_written sheet ≡ 0
  pub wrote : has_written sheet ≡ false
