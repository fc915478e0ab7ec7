use Rattle.std.proofs.Common.{◌≡◌, ◌≤◌, ◌+◌, length}
use Rattle.std.specs.List.{count_by}
use Rattle.written_dates.specs.Tokens.{tokens}
use Rattle.written_dates.specs.Signs.{is_dash, is_sign}
use Rattle.written_dates.proofs.joining.has_two_dashes.Given as goal

abbrev pub invariant-tokens : goal.invariant-tokens
invariant-tokens l = record {
  dashes : l.dashes + count_by (λ p. is_dash p.kind) (tokens 0 l.rest)
      ≡ count_by (λ p. is_dash p.kind) (tokens 0 l.fn.text);
  signs : l.signs + count_by (λ p. is_sign p.kind) (tokens 0 l.rest)
      ≡ count_by (λ p. is_sign p.kind) (tokens 0 l.fn.text);
  few : l.dashes + length l.rest ≤ length l.fn.text;
  few_signs : l.signs + length l.rest ≤ length l.fn.text;
}

abbrev pub decreases-tokens : goal.decreases-tokens
decreases-tokens l = length l.rest
