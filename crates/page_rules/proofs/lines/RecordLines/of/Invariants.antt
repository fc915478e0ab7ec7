use Rattle.std.proofs.Common.{◌≡◌, ◌++◌, List, length}
use Rattle.register_records.specs.Entries.{Fields, text_records}
use Rattle.sheets.specs.Reading.{IsReading, left_of}
use Rattle.page_rules.specs.private.RecordViews.{HasLines}
use Rattle.page_rules.proofs.lines.RecordLines.of.Given as goal

abbrev pub invariant-records : goal.invariant-records
invariant-records l =
    record {
      reading : IsReading l.records;
      done : (done : List Fields) × HasLines l.delimiter done l.lines
          × (done ++ left_of l.records ≡ text_records l.delimiter l.text);
    }

abbrev pub decreases-records : goal.decreases-records
decreases-records l = length (left_of l.records)
