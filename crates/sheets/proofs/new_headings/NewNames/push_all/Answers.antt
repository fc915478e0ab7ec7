use Rattle.std.proofs.Common.{◌++◌, ◌∷◌, [], codes, refl}
use Rattle.std.proofs.lemmas.Result.{on_ok_weaker}
use Rattle.sheets.specs.Headings.{asked_names, column_names, mark_names}
use Rattle.sheets.proofs.HeadingLemmas.{then_all}
use Rattle.sheets.proofs.new_headings.NewNames.push_all.Goals as goal

pub returns : goal.returns
returns c =
    let several = c.args.several in
    let date = c.args.date.now in
    let names = column_names c.args.spans c.args.columns.now in
    let marks = mark_names c.args.spans in
    on_ok_weaker c.push_for.result (λ more. then_all several date (names ++ marks) (codes "refusal" ∷ [])
    (asked_names c.args.spans c.args.columns.now) c.args.self.now c.push_marks.new.self c.push_for.new.self refl
    (then_all several date names marks _ c.args.self.now c.push_asked.new.self c.push_marks.new.self refl
    c.in_ok-push_asked.ensures c.in_ok-push_marks.ensures) more) c.push_for.ensures
