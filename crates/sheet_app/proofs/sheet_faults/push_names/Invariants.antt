use Rattle.std.proofs.Common.{◌≡◌, ◌++◌, take}
use Rattle.sheet_app.proofs.Common.{fields_of}
use Rattle.sheet_app.specs.Lines.{listed}
use Rattle.sheet_app.proofs.sheet_faults.push_names.Given as goal

-- the names so far
abbrev pub invariant-names : goal.invariant-names
invariant-names l = l.line.items ≡ l.fn.line.items ++ listed (take l.index (fields_of l.names))
