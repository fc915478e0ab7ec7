use Rattle.register_records.proofs.Common.{◌≡◌, ◌≤◌, length, drop, fields_text, writing, tail_fields, TAIL_ROOM}
use Rattle.register_records.proofs.rows.Row.put_tail_from.Given as goal

abbrev pub invariant-passed : goal.invariant-passed
invariant-passed l =
    record {
      behind : l.bytes ≡ fields_text (writing l.self.tail.delimiter) (drop l.counter (tail_fields l.self));
      short : length l.bytes ≤ TAIL_ROOM;
    }
