use Rattle.sheet_app.specs.declared.conversions.WholeSheet.{WholeSheet}
use Rattle.sheet_app.proofs.EndLemmas.{broken_by, whole_by}
use Rattle.sheet_app.proofs.conversions.write_outputs.Goals as goal

pub returns-in-Err : goal.returns-in-Err
returns-in-Err g c =
    let end = c.convert_outputs-end.ensures in
    let whole : WholeSheet
    = record { records = c.in-Whole.rows; counts = c.in-Whole.counts; unread = c.in-Whole.unread } in
    let made = whole_by g.W.Output c.args.setup.now.choice c.args.sheet.now c.args.output.now
    c.convert_outputs-end.new.output whole (rw c.in-Whole.is at end.sheet) in
    (whole, made.0, made.1, c.in-Err.cause, c.from.ensures, rw c.in-Err.is at end.registers)

pub returns-in-Broken : goal.returns-in-Broken
returns-in-Broken g c =
    let end = c.convert_outputs-end.ensures in (
      rw c.from-in-Broken.ensures
          (broken_by g.W.Output c.args.setup.now.choice c.args.sheet.now c.args.output.now c.convert_outputs-end.new.output
          c.in-Broken.cause (rw c.in-Broken.is at end.sheet)),
      c.convert_outputs-end.result.registers,
      end.registers,
    )
