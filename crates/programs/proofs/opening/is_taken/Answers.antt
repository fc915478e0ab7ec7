use Rattle.programs.proofs.Common.{◌≡◌, ◌∙◌, ap, arith, length-map, map, rules, Some, sym}
use Rattle.std.proofs.Common.{get_or}
use Rattle.programs.specs.OutputNames.{AreTwoOutputs}
use Rattle.programs.specs.Places.{place_name}
use Rattle.programs.proofs.MatchLemmas.{all_before, none_before, one_before, value_at}
use Rattle.programs.proofs.opening.is_taken.Goals as goal

pub places-init : goal.places-init
places-init g c = search (rules, none_before)

pub places-preserved : goal.places-preserved
places-preserved g c =
    let item = c.other-item.result in
    let there : item ≡ get_or c.args.places.now c.places.other-index item = search rules in
    one_before (λ other. AreTwoOutputs (g.P.FileStore.are_apart c.args.store.now) other (place_name c.args.place.now))
    (map place_name c.args.places.now) c.places.other-index (place_name item) c.places.invariant
    (value_at place_name c.args.places.now c.places.other-index item c.places-test.true
    ∙ ap (λ one. Some (place_name one)) (sym there))
    (c.share_file.ensures c.if-share_file.false)

pub returns : goal.returns
returns g c = λ no.
    all_before (λ other. AreTwoOutputs (g.P.FileStore.are_apart c.args.store.now) other (place_name c.args.place.now))
    (map place_name c.args.places.now)
    c.places.other-index c.places.invariant
    (omega (arith, c.places-test.false, c.places.auto.other-index-end, length-map c.args.places.now place_name))
