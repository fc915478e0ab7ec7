use Rattle.std.proofs.Common.{◌<◌, ◌∷◌, [], arith, get_or, length, map, rules, sym}
use Rattle.sheets.proofs.Common.{CountsDates, no_counts, fields_of, dated_seen}
use Rattle.std.proofs.lemmas.Option.{slice_get-get_or}
use Rattle.sheets.proofs.CountLemmas.{place_counted, place_left}
use Rattle.sheets.proofs.RowLemmas.{no_column, seen_at}
use Rattle.sheets.proofs.date_counts.SheetCounts.add.Goals as goal

pub columns-preserved : goal.columns-preserved
columns-preserved c =
    let inv = c.columns.invariant in
    let place = c.columns.place in
    let low = c.columns-test.true in
    let columns = c.args.columns.now in
    let dates = c.args.dates.now in
    let room : place < length c.columns.self.dates = search rules in
    let field = get_or (fields_of c.args.record.now) (get_or columns place no_column).date [] in
    let counts : CountsDates ((field, dated_seen c.index-dates-place.result) ∷ [])
    (get_or c.columns.self.dates place no_counts) c.add.new.self = rw c.field_at-field.ensures at c.add.ensures in
    record {
      counted = place_counted columns (fields_of c.args.record.now) (map dated_seen dates) place (get_or columns place no_column)
          (dated_seen c.index-dates-place.result) c.args.self.now.dates c.columns.self.dates _ room
          (slice_get-get_or columns place no_column low)
          (seen_at dated_seen dates place c.index-dates-place.result (omega (arith, low, c.requires.dates))
          c.index-dates-place.is) (sym c.if-is_blank_record.ensures) counts inv.left inv.counted;
      left = place_left place c.args.self.now.dates c.columns.self.dates _ inv.left;
      blank = inv.blank;
    }
