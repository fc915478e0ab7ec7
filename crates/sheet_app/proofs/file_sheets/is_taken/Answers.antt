use Rattle.std.proofs.Common.{◌≡◌, ap, arith, get_or, List, ℕ, rules, subst}
use Rattle.sheet_app.proofs.Common.{AreTwoOutputs, place_name}
use Rattle.sheet_app.proofs.NameLemmas.{all_values, each_value}
use Rattle.sheet_app.proofs.file_sheets.is_taken.Goals as goal

pub taken-preserved : goal.taken-preserved
taken-preserved g c =
    let Apart = λ (other : List ℕ). AreTwoOutputs (g.P.FileStore.are_apart c.args.store.now) other
    (place_name c.args.place.now) in
    let item = c.other-item.result in
    let there : item ≡ get_or c.args.taken.now c.taken.other-index item = search rules in
    each_value Apart place_name c.args.taken.now c.taken.other-index item c.taken-test.true c.taken.invariant
    (subst Apart (ap place_name there) (c.share_file.ensures c.if-share_file.false))

pub returns : goal.returns
returns g c = λ no. all_values (λ (other : List ℕ). AreTwoOutputs (g.P.FileStore.are_apart c.args.store.now) other
    (place_name c.args.place.now)) place_name c.args.taken.now c.taken.other-index
    (omega (arith, c.taken-test.false)) c.taken.invariant
