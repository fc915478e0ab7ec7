use Rattle.std.proofs.Common.{◌≡◌, ◌+◌, ◌++◌, List, ℕ, drop, false}
use Rattle.std.specs.Io.KnownBytes.{Appends}
use Rattle.register_app.specs.Reports.{lines_from}
use Rattle.register_app.proofs.reporting.report_ends.Given as goal

-- what was written, with the lines that are left, is all lines
abbrev pub invariant-ends : goal.invariant-ends
invariant-ends g l = (l.place ≡ l.end-index)
    × (g.E.Output.own_mark l.errors ≡ g.E.Output.own_mark l.initial.errors)
    × (g.E.Output.has_failed l.errors ≡ false
    → (text : List ℕ) × Appends (g.E.Output.contents l.initial.errors) (g.E.Output.contents l.errors) text
    × (text ++ lines_from l.summary (l.end-index + 1) (drop l.end-index l.ends) ≡ lines_from l.summary 1 l.ends))
