use Rattle.std.proofs.Common.{◌≡◌, ◌≢◌, ◌∙◌, ◌++◌, ℕ, List, Some, ap, false, refl, rules}
use Rattle.std.specs.Prelude.{is_err}
use Rattle.csv.specs.Records.{fields_of}
use Rattle.csv.specs.Writing.{row_text, writer_pending, writer_setup, writer_under}
use Rattle.csv.specs.declared.writer.QuoteStyle.TheVariants as style
use Rattle.csv.specs.declared.writer.WriterBuilder.{WriterBuilder}
use Rattle.date_parts.proofs.RecordLemmas.{of_ok, same_line}
use Rattle.date_parts.proofs.joined_sheets.write.Goals as goal

pub returns : goal.returns
returns c d text has =
    let fields = fields_of c.args.row.now in
    let old = c.args.sheet.now in
    let wrote : is_err c.write_byte_record.result ≡ false = search rules in
    let other : (writer_setup old).style ≢ style.NonNumeric = rw has.setup (λ e. cc) in
    let more = of_ok _ _ wrote c.write_byte_record.ensures.bytes has.fields has.wrote other in
    let line = ap (λ (w : WriterBuilder). row_text w fields) has.setup ∙ same_line d fields in
    let held : (writer_under old).items ++ writer_pending old ≡ text = cc has.written in
    record {
      written = ap (λ (t : List ℕ). Some t) (more ∙ rw (held, line) refl);
      setup = of_ok _ _ wrote c.write_byte_record.ensures.setup ∙ has.setup;
      fields = of_ok _ _ wrote c.write_byte_record.ensures.ended;
      wrote = of_ok _ _ wrote c.write_byte_record.ensures.clean;
    }
