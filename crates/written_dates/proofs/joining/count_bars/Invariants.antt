use Rattle.std.proofs.Common.{◌≡◌, ◌≤◌, ◌+◌, length}
use Rattle.std.specs.List.{count_by}
use Rattle.written_dates.specs.Tokens.{tokens}
use Rattle.written_dates.specs.Signs.{is_bar}
use Rattle.written_dates.proofs.joining.count_bars.Given as goal

abbrev pub invariant-tokens : goal.invariant-tokens
invariant-tokens l = record {
  bars : l.bars + count_by is_bar (tokens 0 l.rest) ≡ count_by is_bar (tokens 0 l.fn.text);
  few : l.bars + length l.rest ≤ length l.fn.text;
}

abbrev pub decreases-tokens : goal.decreases-tokens
decreases-tokens l = length l.rest
