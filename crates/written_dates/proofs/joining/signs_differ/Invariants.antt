use Rattle.std.proofs.Common.{◌≡◌, length}
use Rattle.written_dates.specs.Tokens.{tokens}
use Rattle.written_dates.specs.Signs.{differ, signs_before_digits}
use Rattle.written_dates.proofs.joining.signs_differ.Given as goal

abbrev pub invariant-tokens : goal.invariant-tokens
invariant-tokens l = differ (signs_before_digits (tokens 0 l.fn.text)) ≡ differ (signs_before_digits (tokens 0 l.rest))

abbrev pub decreases-tokens : goal.decreases-tokens
decreases-tokens l = length l.rest
