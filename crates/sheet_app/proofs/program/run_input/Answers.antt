-- The sheet of standard input is the only one.
use Rattle.std.proofs.Common.{refl}
use Rattle.sheet_app.specs.private.Conversions.{task_by}
use Rattle.sheet_app.proofs.LineLemmas.{one_reported}
use Rattle.sheet_app.proofs.program.run_input.Goals as goal

pub returns : goal.returns
returns g c =
    let ended = c.convert_one-ended.result in
    let told = c.convert_one-ended.ensures in
    record {
      converted = record {
        ended = ended;
        named = told.ended.named;
        output = refl;
        converted = rw c.new.ensures.items at told.ended.converted;
        complete = rw c.is_complete.ensures at c.status_of.ensures.complete;
        reported = one_reported g.E.Output (task_by c.args.by.now) ended c.args.errors.now c.convert_one-ended.new.errors
            told.lines;
      };
      none = c.new-3.ensures.items;
      low = c.status_of.ensures.statuses;
      marked = told.lines.marked;
    }
