use Rattle.std.proofs.Common.{◌≡◌, length}
use Rattle.written_dates.specs.Tokens.{tokens}
use Rattle.std.specs.List.{list_any}
use Rattle.written_dates.specs.Signs.{has_bar_between, is_bar, signs_before_digits}
use Rattle.written_dates.proofs.joining.has_bar_between.Given as goal

abbrev pub invariant-tokens : goal.invariant-tokens
invariant-tokens l = has_bar_between (tokens 0 l.fn.text) ≡ list_any is_bar (signs_before_digits (tokens 0 l.rest))

abbrev pub decreases-tokens : goal.decreases-tokens
decreases-tokens l = length l.rest
