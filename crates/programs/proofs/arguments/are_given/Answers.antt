-- The values are those that clap found.
use Rattle.std.proofs.Common.{◌≡◌, [], arith, map, rules}
use Rattle.std.specs.Prelude.{unwrap_or}
use Rattle.std.proofs.lemmas.List.{length-map}
use Rattle.clap.proofs.WalkLemmas.{raw_values-rows}
use Rattle.clap.specs.Words.{all_of, found_of, rows_of}
use Rattle.programs.proofs.arguments.are_given.Goals as goal

pub returns-in-Some : goal.returns-in-Some
returns-in-Some c =
    let found : map (λ v. v.now) c.in-Some.values.now
    ≡ unwrap_or (all_of c.args.name.now (rows_of (found_of c.args.matches.now))) [] = search (rules, raw_values-rows) in
    rw (← found) (grind (arith, length-map))

pub returns-in-None : goal.returns-in-None
returns-in-None c = search (rules, raw_values-rows)
