use Rattle.std.proofs.Common.{◌≡◌, ◌≢◌, ◌∙◌, ◌++◌, ℕ, List, Vec, ap, false, length, rules, sym}
use Rattle.std.specs.Prelude.{is_err}
use Rattle.csv.specs.Records.{fields_of}
use Rattle.std.specs.declared.alloc.Global.{Global}
use Rattle.csv.specs.Writing.{row_text, writer_pending, writer_setup, writer_under}
use Rattle.csv.specs.declared.writer.QuoteStyle.TheVariants as style
use Rattle.csv.specs.declared.writer.WriterBuilder.{WriterBuilder}
use Rattle.register_records.specs.Lines.{line_text}
use Rattle.sheets.specs.Sheets.{records_text}
use Rattle.page_rules.proofs.LineLemmas.{all_out, more_bounds, more_text, of_ok, same_line}
use Rattle.page_rules.proofs.lines.RecordLines.push.Goals as goal

pub returns : goal.returns
returns c d records has =
    let fields = fields_of c.args.csv_record.now in
    let wrote : is_err c.write_byte_record.result ≡ false = search rules in
    let flushed : is_err c.flush.result ≡ false = search rules in
    let setup = of_ok _ _ wrote c.write_byte_record.ensures.setup in
    let other : (writer_setup c.args.self.now.writer).style ≢ style.NonNumeric = rw has.setup (λ e. cc) in
    let row = of_ok _ _ wrote c.write_byte_record.ensures.bytes has.fields has.wrote other in
    let pending = of_ok _ _ flushed c.flush.ensures.pending in
    let line = ap (λ (w : WriterBuilder). row_text w fields) has.setup ∙ same_line d fields in
    let old = c.args.self.now.writer in
    let mid = c.write_byte_record.new.self in
    let new = c.flush.new.self in
    let text = all_out (records_text d records) (line_text d fields) (writer_under old).items (writer_pending old)
    (writer_under mid).items (writer_pending mid) (writer_under new).items (writer_pending new) has.text has.pending
    (row ∙ ap (λ (bytes : List ℕ). ((writer_under old).items ++ writer_pending old) ++ bytes) line) c.flush.ensures.bytes
    pending ∙ sym (more_text d records fields) in
    let end = ap length (c.as_slice.ensures.value
    ∙ ap (λ (v : Vec ℕ Global). v.items) c.get_ref.ensures ∙ text) in
    record {
      setup = c.flush.ensures.setup ∙ setup ∙ has.setup;
      text = text;
      pending = pending;
      fields = c.flush.ensures.fields ∙ of_ok _ _ wrote c.write_byte_record.ensures.ended;
      wrote = c.flush.ensures.wrote ∙ of_ok _ _ wrote c.write_byte_record.ensures.clean;
      bounds = rw c.in_ok-push.ensures.items (more_bounds d records fields c.args.self.now.bounds.items _
          has.bounds end);
    }
