use Rattle.std.proofs.Common.{◌≡◌, ◌<◌, drop, length, max}
use Rattle.sheets.proofs.Common.{text_records, IsReading, left_of, widest}
use Rattle.sheets.proofs.converting.width_of.Given as goal

abbrev pub invariant-records : goal.invariant-records
invariant-records l =
    record {
      reading : IsReading l.records;
      named : l.above < length (text_records l.delimiter l.sheet);
      width : max l.width (widest (left_of l.records)) ≡ widest (drop l.above (text_records l.delimiter l.sheet));
    }

abbrev pub decreases-records : goal.decreases-records
decreases-records l = length (left_of l.records)
