use Rattle.std.proofs.Common.{◌≡◌, length, map, take}
use Rattle.sheets.proofs.Common.{AllZip, fields_of, IsDateRead, date_seen}
use Rattle.sheets.proofs.sheet_records.SheetRecord.renew.Given as goal

abbrev pub invariant-dates : goal.invariant-dates
invariant-dates l =
    record {
      count : length l.self.columns.items ≡ length l.fn.self.columns.items;
      fields : l.self.fields ≡ l.fn.self.fields;
      number : l.self.number ≡ l.number;
      names : l.met.names ≡ l.fn.met.names;
      dates : AllZip (IsDateRead l.setup.choice l.number (fields_of l.fn.self.fields)) (take l.place l.dates)
          (take l.place (map date_seen l.self.columns.items));
    }
