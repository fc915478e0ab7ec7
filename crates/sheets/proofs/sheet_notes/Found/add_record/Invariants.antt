use Rattle.std.proofs.Common.{◌++◌, ℕ, List, map, take}
use Rattle.sheets.proofs.Common.{fields_of, SheetDate, HasFound}
use Rattle.sheets.proofs.sheet_notes.Found.add_record.Given as goal

abbrev pub invariant-dates : goal.invariant-dates
invariant-dates l =
    (dates : List SheetDate) (most : ℕ) → HasFound l.choice dates most l.fn.self
    → HasFound l.choice (dates ++ map (λ column. (column, fields_of l.of_sheet.fields)) (take l.place l.dates)) most
    l.self
