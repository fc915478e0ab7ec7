use Rattle.register_records.proofs.Common.{◌≡◌, ◌+◌, ◌≤◌, ◌++◌, map, take, drop, flat_map, entry_order, tail_order}
use Rattle.register_records.proofs.Common.{Begins, line_bytes, line_capacity, kind_name, kind_names}
use Rattle.register_records.specs.private.LineRoom.{columns_room, entry_name_room, name_room}
use Rattle.register_records.proofs.row_lines.make_heading.Given as goal

abbrev pub invariant-columns : goal.invariant-columns
invariant-columns l =
    record {
      begun : Begins (l.fn.lines.delimiter) (line_bytes l.fn.lines) (map kind_name (entry_order l.fn.has_notes)
          ++ flat_map (kind_names l.targets) (take l.column-index tail_order)) (line_bytes l.lines);
      short : l.lines.len + columns_room name_room (drop l.column-index tail_order)
          ≤ l.fn.lines.len + entry_name_room + columns_room name_room tail_order;
      kept : l.lines.delimiter ≡ l.fn.lines.delimiter;
      capacity : line_capacity l.lines ≡ line_capacity l.fn.lines;
    }
