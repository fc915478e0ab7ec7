use Rattle.std.proofs.Common.{◌≡◌, ◌+◌, ◌++◌, drop, take, length}
use Rattle.written_dates.specs.declared.tokens.Kind.TheVariants.{Blank}
use Rattle.written_dates.specs.Tokens.{tokens}
use Rattle.date_spans.specs.Cuts.{bytes_before, bytes_behind, count_cuts}
use Rattle.date_spans.proofs.cuts.first_sides.Given as goal

abbrev pub invariant-tokens : goal.invariant-tokens
invariant-tokens l = record {
  rest : l.rest ≡ drop l.place l.fn.text;
  within : l.place + length l.rest ≡ length l.fn.text;
  left : take l.place l.fn.text ++ bytes_before l.cut l.before (tokens 0 l.rest)
      ≡ bytes_before l.cut Blank (tokens 0 l.fn.text);
  behind : bytes_behind l.cut l.before (tokens 0 l.rest) ≡ bytes_behind l.cut Blank (tokens 0 l.fn.text);
  count : count_cuts l.cut l.before (tokens 0 l.rest) ≡ count_cuts l.cut Blank (tokens 0 l.fn.text);
}

abbrev pub decreases-tokens : goal.decreases-tokens
decreases-tokens l = length l.rest
