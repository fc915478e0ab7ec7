use Rattle.std.proofs.Common.{◌≡◌, [], Ok, map}
use Rattle.sheet_arguments.specs.WordLists.{with_columns}
use Rattle.sheet_arguments.proofs.column_lists.read_columns.Given as goal

-- the names so far name the columns so far
abbrev pub invariant-names : goal.invariant-names
invariant-names l =
    (goal.iterator-names).can_next l.name-iterator × (goal.iterator-names).is_finite l.name-iterator
    × (with_columns [] (map (λ name. name.now) l.yielded) ≡ Ok l.columns.items)
