use Rattle.std.proofs.Common.{rules, to_z-of_z}
use Rattle.day_numbers.proofs.RulesLemmas.{number_from_parts}
use Rattle.day_numbers.proofs.rules.day_number_by_rules.Goals as goal

pub returns-clause-value : goal.returns-clause-value
returns-clause-value g c = search (rules, to_z-of_z, number_from_parts)
