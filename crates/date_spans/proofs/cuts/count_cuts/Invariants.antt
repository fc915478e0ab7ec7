use Rattle.std.proofs.Common.{◌≡◌, ◌≤◌, ◌+◌, length}
use Rattle.written_dates.specs.declared.tokens.Kind.TheVariants.{Blank}
use Rattle.written_dates.specs.Tokens.{tokens}
use Rattle.date_spans.specs.Cuts.{count_cuts}
use Rattle.date_spans.proofs.cuts.count_cuts.Given as goal

abbrev pub invariant-tokens : goal.invariant-tokens
invariant-tokens l = record {
  same : l.count + count_cuts l.cut l.before (tokens 0 l.rest) ≡ count_cuts l.cut Blank (tokens 0 l.fn.text);
  few : l.count + length l.rest ≤ length l.fn.text;
}

abbrev pub decreases-tokens : goal.decreases-tokens
decreases-tokens l = length l.rest
