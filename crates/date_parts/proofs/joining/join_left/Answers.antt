use Rattle.std.proofs.Common.{◌≡◌, ◌∙◌, ◌++◌, ◌∷◌, [], ap, append_assoc, refl, rules, true}
use Rattle.std.specs.Prelude.{Ok}
use Rattle.csv.specs.Records.{fields_of}
use Rattle.date_parts.specs.JoinedDates.{with_date}
use Rattle.date_parts.proofs.RecordLemmas.{gains_dated, gains_more}
use Rattle.date_parts.proofs.joining.join_left.Goals as goal

pub records-preserved : goal.records-preserved
records-preserved c =
    let (done, gained, rest) = c.records.invariant.done in
    let yes : c.in_ok-read_next.field-0 ≡ true = search rules in
    let read = c.in_ok-read_next.was ∙ ap Ok yes in
    let given = c.args.joined.now in
    let dated = with_date given.places given.width in
    let fields = fields_of c.read_next.new.record in
    let put = gains_dated (λ places width. with_date places width fields ∷ []) given c.records.joined
    c.put_dated.new.self gained.places gained.width c.in_ok-put_dated.ensures in
    record {
      reading = c.read_next.ensures.reading read;
      done = (
        done ++ dated fields ∷ [],
        gains_more done (dated fields ∷ []) _ _ _ _ gained put refl,
        append_assoc done (dated fields ∷ []) _ ∙ rw (c.read_next.ensures.found read) at rest,
      );
    }
