use Rattle.std.proofs.Common.{codes, map, refl}
use Rattle.sheets.proofs.Common.{asked_behind}
use Rattle.std.proofs.lemmas.Result.{on_ok_weaker}
use Rattle.sheets.proofs.HeadingLemmas.{then_all}
use Rattle.sheets.proofs.new_headings.NewNames.push_ends.Goals as goal

pub returns : goal.returns
returns c =
    let columns = c.args.columns.now in
    on_ok_weaker c.push_end-2.result (λ more. then_all c.args.several c.args.date.now
    (map (asked_behind (codes "first")) columns) (map (asked_behind (codes "last")) columns) _ c.args.self.now
    c.push_end.new.self c.push_end-2.new.self refl c.in_ok-push_end.ensures more) c.push_end-2.ensures
