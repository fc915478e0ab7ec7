-- Each turn names the next output.
use Rattle.std.proofs.Common.{◌≡◌, ap, arith, get_or, List, ℕ, rules, subst}
use Rattle.sheet_app.proofs.Common.{place_name}
use Rattle.sheet_app.proofs.NameLemmas.{all_values, each_value}
use Rattle.sheet_app.proofs.converting.give_names.Goals as goal
use Rattle.sheet_app.proofs.converting.give_names.Goals.{then-not-give_name, else-not-give_name}

pub places-preserved : goal.places-preserved
places-preserved g c =
    let place = c.place-item.result in
    let IsNamed = λ (name : List ℕ). g.P.FileStore.is_named c.args.store.now name in
    let there : place ≡ get_or c.args.places.now c.places.place-index place = search rules in
    elim c.if-not-give_name.branch [
      | then-not-give_name w ↦ rw w.are_named-is (λ no. absurd (cc))
      | else-not-give_name w ↦ rw w.are_named-is (λ all.
          each_value IsNamed place_name c.args.places.now c.places.place-index place c.places-test.true
          (c.places.invariant all) (subst IsNamed (ap place_name there) (c.give_name.ensures w.if-not-give_name.false)))
    ]

pub returns : goal.returns
returns g c = λ all.
    all_values (λ (name : List ℕ). g.P.FileStore.is_named c.args.store.now name) place_name c.args.places.now
    c.places.place-index (omega (arith, c.places-test.false)) (c.places.invariant all)
