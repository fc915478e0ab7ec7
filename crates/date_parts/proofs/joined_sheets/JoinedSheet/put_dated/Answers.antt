use Rattle.std.proofs.Common.{List, ℕ, subst}
use Rattle.csv.specs.Records.{fields_of}
use Rattle.date_parts.specs.JoinedDates.{with_field}
use Rattle.date_parts.specs.private.SheetViews.{GainsRecord}
use Rattle.date_parts.proofs.RecordLemmas.{then_ok}
use Rattle.date_parts.proofs.joined_sheets.JoinedSheet.put_dated.Goals as goal

pub returns : goal.returns
returns c =
    let old = c.args.self.now in
    then_ok c.put_row.result _ _ c.put_row.ensures
    (λ gains. subst (λ (field : List ℕ). GainsRecord (with_field old.width field (fields_of c.args.own.now)) old
    c.put_row.new.self) c.in_ok-write_date.ensures
    (record { text = gains.text; places = gains.places; width = gains.width }))
