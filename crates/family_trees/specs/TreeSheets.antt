-- The dates of a family tree as a sheet.
use Rattle.std.specs.Prelude.{ℕ, List, [], ◌∷◌, codes, map}
use Rattle.std.specs.List.{flat_map}
use Rattle.csv.specs.Writing.{default_writer, row_text}
use Rattle.family_trees.specs.Trees.{DateOfTree, tree_dates}

-- the names of the columns
abbrev pub tree_head : List (List ℕ)
tree_head =
    codes "record" ∷ codes "name" ∷ codes "partner" ∷ codes "event" ∷ codes "part" ∷ codes "type" ∷ codes "place"
    ∷ codes "calendar" ∷ codes "date" ∷ []

-- what is known of a date
abbrev pub date_record : DateOfTree → List (List ℕ)
date_record it =
    it.number ∷ it.name ∷ it.partner ∷ it.event ∷ it.part ∷ it.kind ∷ it.place ∷ it.calendar ∷ it.date ∷ []

-- the text of records as csv writes them by its defaults: a field is quoted where it must be
abbrev pub records_text : List (List (List ℕ)) → List ℕ
records_text records = flat_map (row_text default_writer) records

-- a record for each date of the tree, in order
abbrev pub tree_text : List ℕ → List ℕ
tree_text tree = records_text (tree_head ∷ map date_record (tree_dates tree))
