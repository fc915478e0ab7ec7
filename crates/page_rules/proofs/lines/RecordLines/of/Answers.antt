use Rattle.std.proofs.Common.{◌≡◌, ◌∙◌, ◌++◌, ◌∷◌, [], append_assoc, ap, rules, true}
use Rattle.std.specs.Prelude.{Ok}
use Rattle.csv.specs.Records.{fields_of}
use Rattle.page_rules.proofs.lines.RecordLines.of.Goals as goal

pub records-preserved : goal.records-preserved
records-preserved c =
    let (done, has, rest) = c.records.invariant.done in
    let yes : c.in_ok-read_next.field-0 ≡ true = search rules in
    let read = c.in_ok-read_next.was ∙ ap Ok yes in
    let fields = fields_of c.read_next.new.record in
    record {
      reading = c.read_next.ensures.reading read;
      done = (
        done ++ fields ∷ [],
        c.in_ok-push.ensures c.args.delimiter done has,
        append_assoc done (fields ∷ []) _ ∙ rw (c.read_next.ensures.found read) at rest,
      );
    }
