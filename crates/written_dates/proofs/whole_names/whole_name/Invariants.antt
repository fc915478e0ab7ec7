use Rattle.std.proofs.Common.{◌≡◌, length}
use Rattle.written_dates.specs.Tokens.{tokens}
use Rattle.written_dates.specs.WholeNames.{name_with}
use Rattle.written_dates.proofs.whole_names.whole_name.Given as goal

-- no name so far has the word
abbrev pub invariant-names : goal.invariant-names
invariant-names l = name_with l.word 0 (tokens 0 l.fn.text) ≡ name_with l.word 0 (tokens 0 l.rest)

abbrev pub decreases-names : goal.decreases-names
decreases-names l = length l.rest
