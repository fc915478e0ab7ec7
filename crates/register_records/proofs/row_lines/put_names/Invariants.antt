use Rattle.std.proofs.Common.{◌+◌, ◌*◌, map, take}
use Rattle.register_records.proofs.Common.{target_name, GainsFields, field_room, name_limit, GrowsBy, line_bytes}
use Rattle.register_records.proofs.row_lines.put_names.Given as goal

abbrev pub invariant-targets : goal.invariant-targets
invariant-targets l =
    record {
      gained : GainsFields l.fn.lines.delimiter (map target_name (take l.target-index l.targets))
          (line_bytes l.fn.lines) (line_bytes l.lines);
      grows : GrowsBy ((1 + field_room name_limit) * l.target-index) l.fn.lines l.lines;
    }
