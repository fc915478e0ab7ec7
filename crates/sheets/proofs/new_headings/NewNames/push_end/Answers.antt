use Rattle.std.proofs.Common.{◌≡◌, ◌∙◌, ◌∷◌, [], ap, get_or, map, subst, take, take_all}
use Rattle.sheets.proofs.Common.{fields_of, Fields, NamesMore, wanted_all, asked_behind, DayNumber}
use Rattle.sheets.specs.Headings.{behind}
use Rattle.std.proofs.lemmas.List.{map_more}
use Rattle.sheets.proofs.HeadingLemmas.{then_all}
use Rattle.sheets.proofs.new_headings.NewNames.push_end.Goals as goal

pub columns-preserved : goal.columns-preserved
columns-preserved c =
    let columns = c.args.columns.now in
    let i = c.columns.column-index in
    let f = asked_behind c.args.end.now in
    let name : c.as_slice.result.now ≡ f (get_or columns i DayNumber)
    = c.as_slice.ensures.value ∙ c.in_ok-join.ensures ∙ ap (behind c.args.end.now) c.asked_name.ensures in
    then_all c.args.several c.args.date.now (map f (take i columns)) (f (get_or columns i DayNumber) ∷ []) _
    c.args.self.now c.columns.self c.push_for.new.self (map_more f columns i DayNumber c.columns-test.true)
    c.columns.invariant (rw name at c.in_ok-push_for.ensures)

pub returns : goal.returns
returns c =
    subst (λ (names : Fields). NamesMore (wanted_all c.args.several c.args.date.now names (fields_of c.args.self.now.own))
    c.args.self.now c.columns.self)
    (ap (map (asked_behind c.args.end.now)) (take_all c.columns.column-index c.args.columns.now c.columns-test.false))
    c.columns.invariant
