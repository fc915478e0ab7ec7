use Rattle.std.proofs.Common.{◌≡◌, ◌≤◌, ℕ, List, drop, ◌++◌}
use Rattle.sheets.proofs.Common.{row_seen, GainsFields}
use Rattle.sheets.specs.Converted.{asked_cells, asked_texts}
use Rattle.sheets.proofs.asked.push_cells.Given as goal

abbrev pub invariant-columns : goal.invariant-columns
invariant-columns l =
    record {
      few : l.taken ≤ l.column-index;
      line : (made : List (List ℕ)) × GainsFields made l.fn.lines l.lines
          × (made ++ asked_texts (drop l.column-index l.columns) (row_seen l.row) (drop l.taken (row_seen l.row).cells)
          ≡ asked_cells l.columns (row_seen l.row));
    }
