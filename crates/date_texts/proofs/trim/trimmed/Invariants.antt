use Rattle.std.proofs.Common.{◌≡◌, length}
use Rattle.date_texts.proofs.Common.{trimmed}
use Rattle.date_texts.proofs.trim.trimmed.Given as goal

abbrev pub invariant-loop-inner : goal.invariant-loop-inner
invariant-loop-inner l = trimmed l.inner ≡ trimmed l.text

abbrev pub decreases-loop-inner : goal.decreases-loop-inner
decreases-loop-inner l = length l.inner
