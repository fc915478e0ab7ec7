use Rattle.std.proofs.Common.{◌∷◌, map, take}
use Rattle.family_trees.specs.DateViews.{date_seen}
use Rattle.family_trees.specs.private.SheetViews.{Holds}
use Rattle.family_trees.specs.TreeSheets.{date_record, records_text, tree_head}
use Rattle.family_trees.proofs.tree_sheets.sheet_of.Given as goal

-- the text is that of the dates so far
abbrev pub invariant-dates : goal.invariant-dates
invariant-dates l =
    Holds (records_text (tree_head ∷ map date_record (map date_seen (take l.date-index l.dates)))) l.sheet
