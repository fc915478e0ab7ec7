use Rattle.std.proofs.Common.{◌≡◌, ◌<◌, ◌+◌, ℕ, true}
use Rattle.sheets.proofs.Common.{taken_by, is_taken}
use Rattle.sheets.specs.Headings.{numbered}
use Rattle.sheets.proofs.new_headings.NewNames.numbered.Given as goal

-- each of these was tried
abbrev pub invariant-numbers : goal.invariant-numbers
invariant-numbers l = (fewer : ℕ) → fewer + 1 < l.number → is_taken (taken_by l.self) (numbered l.wanted fewer) ≡ true
