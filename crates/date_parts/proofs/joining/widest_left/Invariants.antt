use Rattle.std.proofs.Common.{◌≡◌, length, max}
use Rattle.sheets.specs.Reading.{IsReading, left_of}
use Rattle.sheets.specs.Sheets.{widest}
use Rattle.date_parts.proofs.joining.widest_left.Given as goal

abbrev pub invariant-records : goal.invariant-records
invariant-records l =
    record {
      reading : IsReading l.records;
      wide : max l.width (widest (left_of l.records)) ≡ widest (left_of l.fn.records);
    }

abbrev pub decreases-records : goal.decreases-records
decreases-records l = length (left_of l.records)
