use Rattle.std.proofs.Common.{◌≡◌, ◌++◌, List, length, map}
use Rattle.register_records.specs.Entries.{Fields}
use Rattle.date_parts.specs.JoinedDates.{with_date}
use Rattle.sheets.specs.Reading.{IsReading, left_of}
use Rattle.date_parts.specs.private.SheetViews.{GainsRecords}
use Rattle.date_parts.proofs.joining.join_left.Given as goal

abbrev pub invariant-records : goal.invariant-records
invariant-records l =
    record {
      reading : IsReading l.records;
      done : (done : List Fields) × GainsRecords done l.fn.joined l.joined
          × (done ++ map (with_date l.fn.joined.places l.fn.joined.width) (left_of l.records)
          ≡ map (with_date l.fn.joined.places l.fn.joined.width) (left_of l.fn.records));
    }

abbrev pub decreases-records : goal.decreases-records
decreases-records l = length (left_of l.records)
