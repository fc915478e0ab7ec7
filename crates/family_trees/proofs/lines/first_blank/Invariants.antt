use Rattle.std.proofs.Common.{◌≡◌, ◌+◌, drop}
use Rattle.std.specs.List.{position_or_len}
use Rattle.family_trees.specs.Lines.{is_blank}
use Rattle.family_trees.proofs.lines.first_blank.Given as goal

-- no blank stands in the bytes so far
abbrev pub invariant-bytes : goal.invariant-bytes
invariant-bytes l = (l.blank ≡ l.byte-index)
    × (position_or_len is_blank l.text ≡ l.blank + position_or_len is_blank (drop l.blank l.text))
