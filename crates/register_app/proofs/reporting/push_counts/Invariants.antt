use Rattle.std.proofs.Common.{◌≡◌, ◌≤◌, ◌+◌, ◌*◌, ◌++◌, drop, length, true}
use Rattle.register_app.specs.Reports.{counts_from, every_refusal}
use Rattle.register_app.specs.declared.reporting.TheConstants.{PART, WHOLE}
use Rattle.register_app.proofs.reporting.push_counts.Given as goal

-- the line, with the counts that are left, is the line with all
abbrev pub invariant-refusals : goal.invariant-refusals
invariant-refusals l = (length l.line.bytes ≤ WHOLE + PART * l.refusal-index)
    × (l.line.bytes ++ counts_from l.is_first l.journal (drop l.refusal-index every_refusal)
    ≡ l.initial.line.bytes ++ counts_from true l.journal every_refusal)
