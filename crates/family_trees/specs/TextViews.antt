-- What a clause sees of a text of a tree.
use Rattle.std.specs.Prelude.{ℕ, List}
use Rattle.family_trees.specs.declared.values.Text.{Text}
use Rattle.family_trees.specs.declared.values.Text.TheVariants.{Part, Joined}

abbrev pub text_seen : Text → List ℕ
text_seen (Part text) = text.now
text_seen (Joined text) = text.items
