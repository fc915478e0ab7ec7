use Rattle.std.proofs.Common.{◌+◌, ◌*◌, map, take}
use Rattle.register_records.proofs.Common.{entry_order, Begins, field_room, name_limit, GrowsBy, line_bytes, kind_name}
use Rattle.register_records.proofs.row_lines.put_entry_names.Given as goal

abbrev pub invariant-columns : goal.invariant-columns
invariant-columns l =
    record {
      begun : Begins l.fn.lines.delimiter (line_bytes l.fn.lines) (map kind_name (take l.i (entry_order l.fn.has_notes)))
          (line_bytes l.lines);
      grows : GrowsBy ((1 + field_room name_limit) * l.i) l.fn.lines l.lines;
    }
