use Rattle.std.proofs.Common.{◌≡◌, ◌++◌, List, length, ◌∷◌, []}
use Rattle.sheets.proofs.Common.{Fields, IsReading, left_of}
use Rattle.sheets.specs.NameLists.{AreLines, columns}
use Rattle.sheets.specs.Sheets.{chosen}
use Rattle.sheets.proofs.name_lists.NameList.add_lines.Given as goal

-- the records so far are lines
abbrev pub invariant-records : goal.invariant-records
invariant-records l =
    record {
      reading : IsReading l.records;
      lines : (header : Fields) × (before : List Fields)
          × (chosen (0 ∷ 1 ∷ 2 ∷ []) header ≡ columns) × AreLines before l.self.lines.items
          × (left_of l.fn.records ≡ header ∷ before ++ left_of l.records);
    }

abbrev pub decreases-records : goal.decreases-records
decreases-records l = length (left_of l.records)
