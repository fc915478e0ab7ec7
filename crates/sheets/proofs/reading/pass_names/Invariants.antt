use Rattle.std.proofs.Common.{◌≡◌, drop}
use Rattle.sheets.proofs.Common.{IsReading, left_of}
use Rattle.sheets.proofs.reading.pass_names.Given as goal

abbrev pub invariant-records : goal.invariant-records
invariant-records l =
    record { reading : IsReading l.records; left : left_of l.records ≡ drop l.counter (left_of l.fn.records) }
