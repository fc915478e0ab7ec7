use Rattle.family_trees.proofs.tree_sheets.write_date.Goals as goal

pub returns : goal.returns
returns c = rw (c.requires.place, c.requires.text) at c.write.ensures
