use Rattle.std.proofs.Common.{◌≡◌, ◌-◌, [], ◌++◌, codes, map, take}
use Rattle.sheet_app.proofs.Common.{head_of}
use Rattle.std.specs.Fmt.{decimal}
use Rattle.sheet_app.specs.Lines.{listed}
use Rattle.sheet_app.proofs.reports.line_of_counts.Given as goal

-- the counts so far
abbrev pub invariant-dates : goal.invariant-dates
invariant-dates l =
    record {
      refused : l.line.items
          ≡ (head_of l.name ++ (decimal (l.whole.records - l.whole.counts.blank) ++ codes " records, refused: "))
          ++ listed (take l.index (map (λ counts. decimal counts.refused) l.columns));
      empty : l.empty.items ≡ [] ++ listed (take l.index (map (λ counts. decimal counts.empty) l.columns));
    }
