use Rattle.std.proofs.Common.{◌≡◌, ◌≤◌, ◌+◌, drop, take, length}
use Rattle.written_dates.specs.Tokens.{tokens}
use Rattle.written_dates.specs.Fields.{bare_end, spelling}
use Rattle.written_dates.proofs.FieldLemmas.{ending}
use Rattle.written_dates.proofs.fields.without_blanks.Given as goal

abbrev pub invariant-tokens : goal.invariant-tokens
invariant-tokens l = record {
  rest : l.rest ≡ drop l.place l.front;
  within : l.place + length l.rest ≡ length l.front;
  end : l.end ≤ l.place;
  same : ending (take l.end l.front) (take l.place l.front) (bare_end (tokens 0 l.rest))
      ≡ spelling (bare_end (tokens 0 l.front));
}

abbrev pub decreases-tokens : goal.decreases-tokens
decreases-tokens l = length l.rest
