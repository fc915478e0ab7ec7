-- The list has the values that clap found.
use Rattle.std.proofs.Common.{rules}
use Rattle.clap.proofs.WalkLemmas.{raw_values-rows}
use Rattle.programs.proofs.arguments.values_given.Goals as goal

pub returns-in-Some : goal.returns-in-Some
returns-in-Some c = search (rules, raw_values-rows)

pub returns-in-None : goal.returns-in-None
returns-in-None c = search (rules, raw_values-rows)
