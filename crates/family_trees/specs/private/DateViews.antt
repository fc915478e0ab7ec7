-- What a clause sees of lines, of pairs of texts, and of a value.
use Rattle.std.specs.Prelude.{ℕ, List, Option, map, option_map}
use Rattle.std.specs.Borrow.{Bor}
use Rattle.family_trees.specs.Lines.{TreeLine}
use Rattle.family_trees.specs.private.LineViews.{line_seen}
use Rattle.family_trees.specs.TextViews.{text_seen}
use Rattle.family_trees.specs.declared.trees.Tree.{Tree}
use Rattle.family_trees.specs.declared.date_values.DateValue.{DateValue}
use Rattle.family_trees.specs.declared.lines.Line.{Line}

abbrev pub lines_in : Tree → List TreeLine
lines_in tree = map line_seen tree.lines.items

abbrev pub over_seen : Option Line → Option TreeLine
over_seen over = option_map line_seen over

abbrev pub pair_seen : Bor (List ℕ) × Bor (List ℕ) → List ℕ × List ℕ
pair_seen pair = (pair.0.now, pair.1.now)

abbrev pub value_seen : DateValue → List ℕ × List ℕ
value_seen it = (it.calendar.now, text_seen it.text)
