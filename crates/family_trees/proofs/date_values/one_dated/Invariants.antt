use Rattle.std.proofs.Common.{◌≡◌, drop, map}
use Rattle.family_trees.specs.DateValues.{one_dated}
use Rattle.family_trees.proofs.date_values.one_dated.Given as goal

-- the value begins with none of the words so far
abbrev pub invariant-words : goal.invariant-words
invariant-words l = one_dated (map (λ word. word.now) l.words) l.value
    ≡ one_dated (map (λ word. word.now) (drop l.word-index l.words)) l.value
