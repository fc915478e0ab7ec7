use Rattle.std.proofs.Common.{◌≡◌, length}
use Rattle.written_dates.specs.Tokens.{tokens}
use Rattle.written_dates.specs.Signs.{has_digits}
use Rattle.written_dates.proofs.joining.has_digits.Given as goal

abbrev pub invariant-tokens : goal.invariant-tokens
invariant-tokens l = has_digits (tokens 0 l.fn.text) ≡ has_digits (tokens 0 l.rest)

abbrev pub decreases-tokens : goal.decreases-tokens
decreases-tokens l = length l.rest
