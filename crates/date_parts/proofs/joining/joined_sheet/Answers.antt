use Rattle.std.proofs.Common.{◌≡◌, ◌++◌, ℕ, List, ap, drop, refl, take}
use Rattle.register_records.specs.Entries.{Fields, text_records}
use Rattle.date_parts.specs.JoinedDates.{dated_records, joined_records}
use Rattle.sheets.specs.Reading.{left_of}
use Rattle.sheets.specs.Sheets.{records_text}
use Rattle.date_parts.specs.declared.places.DatePlaces.{DatePlaces}
use Rattle.date_parts.proofs.RecordLemmas.{text_known}
use Rattle.date_parts.proofs.joining.joined_sheet.Goals as goal

pub returns : goal.returns
returns c =
    let d = c.args.delimiter in
    let all = text_records d c.args.sheet.now in
    let made = λ (places : DatePlaces) (width : ℕ) (records : List Fields).
    take c.args.above records ++ dated_records places width (drop c.args.above records) in
    let same : made c.new-joined.result.places c.new-joined.result.width (left_of c.records_of-records.result)
    ≡ joined_records c.args.places c.args.above all
    = rw (
      c.new-joined.ensures.places,
      c.new-joined.ensures.width,
      c.in_ok-width.ensures,
      c.records_of-records.ensures.left,
    ) refl in
    text_known c.into_text.result d _ _ c.join_all.new.joined c.into_text.ensures
    (c.in_ok-join_all.ensures.text d c.args.front.items c.new-joined.ensures.text)
    (ap (λ (records : List Fields). c.args.front.items ++ records_text d records) same)
