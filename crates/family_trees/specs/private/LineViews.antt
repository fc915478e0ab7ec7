-- What a clause sees of `Line`.
use Rattle.family_trees.specs.Lines.{TreeLine}
use Rattle.family_trees.specs.declared.lines.Line.{Line}

abbrev pub line_seen : Line → TreeLine
line_seen line = record { level = line.level; number = line.number.now; tag = line.tag.now; value = line.value.now }
