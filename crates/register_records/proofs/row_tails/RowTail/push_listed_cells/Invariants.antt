use Rattle.register_records.proofs.Common.{◌+◌, ◌*◌, ◌≤◌, take, tail_bytes, outcome_seen, CELL_ROOM}
use Rattle.register_records.proofs.RowTailLemmas.{HasCells}
use Rattle.register_records.proofs.row_tails.RowTail.push_listed_cells.Given as goal

abbrev pub invariant-cells : goal.invariant-cells
invariant-cells l =
    record {
      made : HasCells l.delimiter (outcome_seen l.outcome) (take l.target-index l.targets) (tail_bytes l.fn.self)
          (take l.end l.bytes);
      room : l.end ≤ l.fn.self.len + CELL_ROOM * l.target-index;
    }
