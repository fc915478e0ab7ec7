use Rattle.std.proofs.Common.{◌≡◌, ◌-◌, ◌++◌, List, length, take}
use Rattle.register_records.specs.Entries.{Fields}
use Rattle.sheets.specs.Reading.{IsReading, left_of}
use Rattle.page_rules.specs.Picks.{IsPicked}
use Rattle.page_rules.proofs.picking.Picked.add_records.Given as goal

abbrev pub invariant-records : goal.invariant-records
invariant-records l =
    record {
      reading : IsReading l.records;
      done : (done : List Fields) × IsPicked l.places l.self done × (length done ≡ l.counter)
          × (done ++ take (l.most - l.counter) (left_of l.records)
          ≡ take l.most (left_of l.fn.records));
    }
