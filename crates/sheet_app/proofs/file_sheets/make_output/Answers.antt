-- The output is made by its name, and its place is noted.
use Rattle.std.proofs.Common.{rules, ◌≡◌, ◌∙◌, ◌++◌, ◌∷◌, [], map}
use Rattle.sheet_app.proofs.Common.{AreTwoOutputs, place_name}
use Rattle.sheet_app.proofs.NameLemmas.{apart_more, made_by, noted_last}
use Rattle.sheet_app.proofs.file_sheets.make_output.Goals as goal

pub returns-clause-made : goal.returns-clause-made
returns-clause-made g c =
    made_by g.W.Output (g.P.FileStore.is_made c.args.store.now) (place_name c.in_ok-place.place)
    (c.args.file.now ++ c.args.ending.now) _ c.in-Ok-make.output c.in_ok-place.ensures c.in-Ok-make.ensures.made

pub returns-clause-noted : goal.returns-clause-noted
returns-clause-noted g c =
    let pushed : c.push.new.self.items ≡ c.args.taken.now.items ++ c.in_ok-copy.copy ∷ [] = search rules in
    noted_last c.args.taken.now.items c.push.new.self.items c.in_ok-copy.copy _ pushed
    (c.in_ok-copy.ensures ∙ c.make.ensures.kept ∙ c.in_ok-place.ensures)

pub returns-clause-placed : goal.returns-clause-placed
returns-clause-placed g c =
    let pushed : c.push-else-is_err.new.self.items ≡ c.args.places.now.items ++ c.make.new.place ∷ [] = search rules in
    noted_last c.args.places.now.items c.push-else-is_err.new.self.items c.make.new.place _ pushed
    (c.make.ensures.kept ∙ c.in_ok-place.ensures)

pub returns-clause-apart : goal.returns-clause-apart
returns-clause-apart g c =
    let pushed : c.push.new.self.items ≡ c.args.taken.now.items ++ c.in_ok-copy.copy ∷ [] = search rules in
    apart_more (AreTwoOutputs (g.P.FileStore.are_apart c.args.store.now)) (map place_name c.args.taken.now.items)
    (map place_name c.push.new.self.items) (c.args.file.now ++ c.args.ending.now)
    (noted_last c.args.taken.now.items c.push.new.self.items c.in_ok-copy.copy _ pushed
    (c.in_ok-copy.ensures ∙ c.make.ensures.kept ∙ c.in_ok-place.ensures))
    (rw (c.as_slice.ensures.value, c.make.ensures.kept, c.in_ok-place.ensures)
    at c.is_taken.ensures c.if-is_taken.false)
