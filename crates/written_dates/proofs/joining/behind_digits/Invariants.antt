use Rattle.std.proofs.Common.{◌≡◌, length}
use Rattle.written_dates.specs.Tokens.{tokens}
use Rattle.written_dates.specs.Signs.{signs_between}
use Rattle.written_dates.proofs.joining.behind_digits.Given as goal

abbrev pub invariant-tokens : goal.invariant-tokens
invariant-tokens l = signs_between (tokens 0 l.fn.text) ≡ signs_between (tokens 0 l.rest)

abbrev pub decreases-tokens : goal.decreases-tokens
decreases-tokens l = length l.rest
