use Rattle.std.proofs.Common.{map}
use Rattle.register_records.specs.SetupRules.{NamesTwice}
use Rattle.register_arguments.specs.OptionValues.{AreNamesOf}
use Rattle.register_arguments.proofs.option_values.read_targets.Given as goal

-- the names so far name the targets so far, each once
abbrev pub invariant-names : goal.invariant-names
invariant-names l =
    (goal.iterator-names).can_next l.name-iterator × (goal.iterator-names).is_finite l.name-iterator
    × AreNamesOf (map (λ name. name.now) l.yielded) l.targets.items × (¬ NamesTwice l.targets.items)
