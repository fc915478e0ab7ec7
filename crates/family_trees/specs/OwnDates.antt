-- The dates of a family tree that are not those of its file.
use Rattle.std.specs.Prelude.{◌||◌, ℕ, Bool, List, [], ◌∷◌, codes, drop, false, filter, if◌then◌else◌, map, not}
use Rattle.std.specs.Str.{bytes_eq}
use Rattle.family_trees.specs.DateValues.{begins_with}
use Rattle.family_trees.specs.Lines.{TreeLine, tree_lines}
use Rattle.family_trees.specs.TreeSheets.{date_record, records_text, tree_head}
use Rattle.family_trees.specs.Trees.{DateOfTree, is_wanted, tree_dates}

-- without the mark of UTF-8 in front, which some programs write
abbrev pub unmarked : List ℕ → List ℕ
unmarked text = if begins_with (239 ∷ 187 ∷ 191 ∷ []) text then drop 3 text else text

abbrev pub begins_with_head : List TreeLine → Bool
begins_with_head [] = false
begins_with_head (line ∷ lines) = is_wanted 0 (codes "HEAD") line

-- the first line of a tree is its header
abbrev pub is_tree : List ℕ → Bool
is_tree text = begins_with_head (tree_lines (unmarked text))

-- the tags of when a record was changed or made, of GEDCOM and of programs
abbrev pub is_change : List ℕ → Bool
is_change event =
    bytes_eq event (codes "CHAN") || bytes_eq event (codes "_CHAN") || bytes_eq event (codes "CREA")
    || bytes_eq event (codes "_CREA")

-- a date of the file itself: of its header, which has no number, or of when a record was changed or made
abbrev pub is_of_file : DateOfTree → Bool
is_of_file it = bytes_eq it.number [] || is_change it.event

-- the other dates of a tree, in order
abbrev pub own_dates : List ℕ → List DateOfTree
own_dates tree = filter (λ it. not (is_of_file it)) (tree_dates (unmarked tree))

-- a record for each of them
abbrev pub own_text : List ℕ → List ℕ
own_text tree = records_text (tree_head ∷ map date_record (own_dates tree))
