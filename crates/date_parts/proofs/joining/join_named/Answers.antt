use Rattle.std.proofs.Common.{◌≡◌, ◌∙◌, ◌∷◌, [], ap, map, rules, true}
use Rattle.std.specs.Prelude.{Ok}
use Rattle.csv.specs.Records.{fields_of}
use Rattle.date_parts.specs.JoinedDates.{dated_records, heading_in, with_date, with_field}
use Rattle.sheets.specs.Reading.{left_of}
use Rattle.date_parts.proofs.RecordLemmas.{gains_dated, gains_more, then_ok}
use Rattle.date_parts.proofs.joining.join_named.Goals as goal

pub returns : goal.returns
returns c =
    let given = c.args.joined.now in
    let mid = c.put_names.new.self in
    let new = c.join_left.new.joined in
    let yes : c.in_ok-read_next.field-0 ≡ true = search rules in
    let found = c.read_next.ensures.found (c.in_ok-read_next.was ∙ ap Ok yes) in
    let names = fields_of c.read_next.new.record in
    let left = left_of c.read_next.new.records in
    let named = c.in_ok-put_names.ensures in
    then_ok c.join_left.result _ _ c.join_left.ensures
    (λ gains. gains_more (with_field given.width (heading_in given.places names) names ∷ [])
    (map (with_date given.places given.width) left) _ given mid new named
    (gains_dated (λ places width. map (with_date places width) left) given mid new named.places named.width gains)
    (ap (dated_records given.places given.width) found))
