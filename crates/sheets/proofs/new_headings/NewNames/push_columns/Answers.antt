use Rattle.std.proofs.Common.{◌∷◌, [], ap, get_or, map, subst, take, take_all}
use Rattle.sheets.proofs.Common.{fields_of, Fields, NamesMore, wanted_all, DayNumber}
use Rattle.sheets.specs.Headings.{asked_name}
use Rattle.std.proofs.lemmas.List.{map_more}
use Rattle.sheets.proofs.HeadingLemmas.{then_all}
use Rattle.sheets.proofs.new_headings.NewNames.push_columns.Goals as goal

pub columns-preserved : goal.columns-preserved
columns-preserved c =
    let columns = c.args.columns.now in
    let i = c.columns.column-index in
    then_all c.args.several c.args.date.now (map asked_name (take i columns))
    (asked_name (get_or columns i DayNumber) ∷ []) _ c.args.self.now c.columns.self c.push_for.new.self
    (map_more asked_name columns i DayNumber c.columns-test.true) c.columns.invariant
    (rw c.asked_name.ensures at c.in_ok-push_for.ensures)

pub returns : goal.returns
returns c =
    subst (λ (names : Fields). NamesMore (wanted_all c.args.several c.args.date.now names (fields_of c.args.self.now.own))
    c.args.self.now c.columns.self)
    (ap (map asked_name) (take_all c.columns.column-index c.args.columns.now c.columns-test.false)) c.columns.invariant
