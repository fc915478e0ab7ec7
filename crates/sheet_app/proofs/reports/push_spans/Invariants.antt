use Rattle.std.proofs.Common.{◌≡◌, ◌++◌, codes, map, take}
use Rattle.std.specs.Fmt.{decimal}
use Rattle.sheet_app.specs.Lines.{listed}
use Rattle.sheet_app.proofs.reports.push_spans.Given as goal

-- the numbers so far
abbrev pub invariant-dates : goal.invariant-dates
invariant-dates l =
    l.line.items ≡ (l.fn.line.items ++ codes ", spans: ")
    ++ listed (take l.index (map (λ counts. decimal counts.spans) l.columns))
