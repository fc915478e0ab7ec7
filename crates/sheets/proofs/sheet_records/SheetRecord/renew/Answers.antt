use Rattle.std.proofs.Common.{◌<◌, ◌∙◌, ◌+◌, List, arith, length, length-set, subst, sym, take}
use Rattle.sheets.proofs.Common.{AllZip, fields_of, DateRead, IsDateRead, date_seen, DateColumn, ColumnDates}
use Rattle.sheets.proofs.ReadingLemmas.{set_more}
use Rattle.sheets.proofs.RowLemmas.{no_column, zip_at}
use Rattle.sheets.proofs.sheet_records.SheetRecord.renew.Goals as goal

pub dates-preserved : goal.dates-preserved
dates-preserved c =
    let inv = c.dates.invariant in
    let place = c.dates.place in
    let choice = c.args.setup.now.choice in
    let dates = choice.dates.now in
    let R : DateColumn → DateRead → Type 0 = IsDateRead choice c.args.number (fields_of c.args.self.now.fields) in
    let column : ColumnDates = c.renew.new.self in
    let low : place < length c.dates.self.columns.items = omega (
      arith,
      inv.count,
      c.requires.count,
      c.dates-test.true,
      c.dates.self.columns.ok,
    ) in
    record {
      count = length-set c.dates.self.columns.items place column ∙ inv.count;
      fields = inv.fields;
      number = inv.number;
      names = c.renew.ensures.names ∙ inv.names;
      dates = subst (λ (ys : List DateRead). AllZip R (take (place + 1) dates) ys)
          (sym (set_more date_seen c.dates.self.columns.items place column low))
          (zip_at R dates _ place no_column (date_seen column) c.dates-test.true inv.dates (rw inv.fields at
          c.in_ok-renew.ensures.read));
    }
