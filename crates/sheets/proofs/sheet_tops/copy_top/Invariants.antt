use Rattle.std.proofs.Common.{◌≡◌, drop, take}
use Rattle.sheets.proofs.Common.{Makes, IsReading, left_of}
use Rattle.sheets.proofs.sheet_tops.copy_top.Given as goal

abbrev pub invariant-above : goal.invariant-above
invariant-above g l =
    record {
      reading : IsReading l.records;
      left : left_of l.records ≡ drop l.counter (left_of l.fn.records);
      made : Makes g.W.Output (take l.counter (left_of l.fn.records)) l.fn.writer l.writer l.fn.output l.output;
    }
