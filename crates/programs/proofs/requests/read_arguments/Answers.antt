-- What clap says of its parse.
use Rattle.clap.proofs.WalkLemmas.{both}
use Rattle.programs.proofs.requests.read_arguments.Goals as goal

pub returns-in-Ok-clause-read : goal.returns-in-Ok-clause-read
returns-in-Ok-clause-read c =
    (c.in-Ok.ensures.kinds c.requires.simple, (c.in-Ok.ensures.matches (both _ _ c.requires.simple).0).0)
