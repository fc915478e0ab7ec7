use Rattle.std.proofs.Common.{map, take}
use Rattle.sheets.proofs.Common.{flat_map, GainsFields, dated_seen}
use Rattle.sheets.specs.Converted.{dated_fields}
use Rattle.sheets.proofs.record_lines.push_rows.Given as goal

abbrev pub invariant-columns : goal.invariant-columns
invariant-columns l =
    GainsFields (flat_map (dated_fields l.setup.choice)
    (take l.dates-index (map dated_seen l.dates-items))) l.fn.lines l.lines
