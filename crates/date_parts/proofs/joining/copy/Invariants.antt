use Rattle.std.proofs.Common.{◌≡◌, drop, take}
use Rattle.sheets.specs.Reading.{IsReading, left_of}
use Rattle.date_parts.specs.private.SheetViews.{GainsRecords}
use Rattle.date_parts.proofs.joining.copy.Given as goal

abbrev pub invariant-copied : goal.invariant-copied
invariant-copied l =
    record {
      reading : IsReading l.records;
      left : left_of l.records ≡ drop l.counter (left_of l.fn.records);
      gained : GainsRecords (take l.counter (left_of l.fn.records)) l.fn.joined l.joined;
    }
