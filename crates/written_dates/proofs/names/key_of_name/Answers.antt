use Rattle.std.proofs.Common.{ap, sym, ◌∙◌}
use Rattle.written_dates.specs.private.Keys.{key_of, first_text}
use Rattle.written_dates.proofs.WordLemmas.{key_of_none}
use Rattle.written_dates.proofs.names.key_of_name.Goals as goal

pub returns-in-None-clause-value : goal.returns-in-None-clause-value
returns-in-None-clause-value c = sym (ap (λ parts. key_of (first_text parts)) c.in-None.ensures.none ∙ key_of_none)
