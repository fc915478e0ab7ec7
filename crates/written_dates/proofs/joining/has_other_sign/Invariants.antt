use Rattle.std.proofs.Common.{◌≡◌, length}
use Rattle.written_dates.specs.Tokens.{piece, tokens}
use Rattle.std.specs.List.{list_any}
use Rattle.written_dates.specs.Signs.{is_other_sign, signs_before_digits}
use Rattle.written_dates.proofs.joining.has_other_sign.Given as goal

abbrev pub invariant-tokens : goal.invariant-tokens
invariant-tokens l = list_any (is_other_sign (piece l.fn.sign)) (signs_before_digits (tokens 0 l.fn.text))
    ≡ list_any (is_other_sign (piece l.fn.sign)) (signs_before_digits (tokens 0 l.rest))

abbrev pub decreases-tokens : goal.decreases-tokens
decreases-tokens l = length l.rest
