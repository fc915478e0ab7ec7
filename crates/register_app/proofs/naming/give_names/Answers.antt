-- Each turn names the next table, or reports it.
use Rattle.std.proofs.Common.{◌≡◌, ◌∙◌, ap, arith, get_or, map, refl, rules, slice_get, Some, sym}
use Rattle.std.proofs.lemmas.List.{length-map}
use Rattle.programs.specs.Places.{place_name}
use Rattle.programs.proofs.MatchLemmas.{value_at}
use Rattle.register_app.proofs.NamingLemmas.{all_so_far, none_yet, one_named, one_unnamed}
use Rattle.register_app.proofs.naming.give_names.Goals as goal
use Rattle.register_app.proofs.naming.give_names.Goals.{then-not-give_name, else-not-give_name}

pub places-init : goal.places-init
places-init g c =
    (none_yet g.E.Output (g.P.FileStore.is_named c.args.store.now) (map place_name c.args.places.now) c.args.errors.now, refl)

pub places-preserved : goal.places-preserved
places-preserved g c =
    let place = c.place-item.result in
    let names = map place_name c.args.places.now in
    let there : place ≡ get_or c.args.places.now c.places.place-index place = search rules in
    let at : slice_get names c.places.place-index ≡ Some (place_name place)
    = value_at place_name c.args.places.now c.places.place-index place c.places-test.true
    ∙ ap (λ p. Some (place_name p)) (sym there) in
    let (so_far, mark) = c.places.invariant in
    elim c.if-not-give_name.branch [
      | then-not-give_name w ↦
          let (line, is, said) = w.report_unnamed.ensures.line in
          rw (w.are_named-is, w.errors-is) (
            one_unnamed g.E.Output (g.P.FileStore.is_named c.args.store.now) names c.places.place-index (place_name place)
                line c.places.are_named c.args.errors.now c.places.errors w.report_unnamed.new.errors so_far at
                (rw w.name.ensures at is) said,
            w.report_unnamed.ensures.mark ∙ mark,
          )
      | else-not-give_name w ↦
          rw (w.are_named-is, w.errors-is) (
            one_named g.E.Output (g.P.FileStore.is_named c.args.store.now) names c.places.place-index (place_name place)
                c.places.are_named c.args.errors.now c.places.errors so_far at (c.give_name.ensures w.if-not-give_name.false),
            mark,
          )
    ]

pub returns-clause-named : goal.returns-clause-named
returns-clause-named g c =
    all_so_far g.E.Output (g.P.FileStore.is_named c.args.store.now) (map place_name c.args.places.now) c.places.place-index
    c.places.are_named c.args.errors.now c.places.errors c.places.invariant.0
    (omega (arith, c.places-test.false, length-map c.args.places.now place_name))
