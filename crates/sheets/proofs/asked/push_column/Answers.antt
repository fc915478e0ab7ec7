use Rattle.std.proofs.Common.{ℕ, List, [], ◌∷◌, drop, get_or, subst, sym}
use Rattle.sheets.proofs.Common.{row_seen, GainsFields, AskedColumn}
use Rattle.sheets.specs.Converted.{asked_text}
use Rattle.sheets.proofs.RowLemmas.{same_head}
use Rattle.sheets.proofs.asked.push_column.Goals as goal

pub returns-in_ok-push_cell-in-Cells-clause-line : goal.returns-in_ok-push_cell-in-Cells-clause-line
returns-in_ok-push_cell-in-Cells-clause-line c =
    let row = row_seen c.args.row.now in
    subst (λ (column : AskedColumn). GainsFields (asked_text column row (drop c.args.taken row.cells) ∷ [])
    c.args.lines.now c.push_cell.new.lines) (sym c.in-Cells.is)
    (subst (λ (text : List ℕ). GainsFields (text ∷ []) c.args.lines.now c.push_cell.new.lines)
    (sym (same_head c.args.taken row.cells []))
    (subst (λ (cells : List (List ℕ)). GainsFields (get_or cells c.args.taken [] ∷ []) c.args.lines.now
    c.push_cell.new.lines) c.requires c.in_ok-push_cell-in-Cells.ensures))
