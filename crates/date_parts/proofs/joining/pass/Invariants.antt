use Rattle.std.proofs.Common.{◌≡◌, drop}
use Rattle.sheets.specs.Reading.{IsReading, left_of}
use Rattle.date_parts.proofs.joining.pass.Given as goal

abbrev pub invariant-passed : goal.invariant-passed
invariant-passed l =
    record { reading : IsReading l.records; left : left_of l.records ≡ drop l.counter (left_of l.fn.records) }
