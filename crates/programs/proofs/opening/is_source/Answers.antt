use Rattle.programs.proofs.Common.{rules, arith, map, length-map}
use Rattle.programs.specs.OutputNames.{IsApartFrom}
use Rattle.programs.specs.Places.{place_name}
use Rattle.programs.proofs.MatchLemmas.{all_before, none_before, one_before, value_at}
use Rattle.programs.proofs.opening.is_source.Goals as goal

pub files-init : goal.files-init
files-init g c = search (rules, none_before)

pub files-preserved : goal.files-preserved
files-preserved g c =
    one_before (λ other. IsApartFrom (g.P.FileStore.are_apart c.args.store.now) other (place_name c.args.place.now))
    (map (λ f. f.now) c.args.files.now) c.files.other-index _ c.files.invariant
    (value_at (λ f. f.now) c.args.files.now c.files.other-index _ c.files-test.true)
    (c.is_of_output.ensures c.if-is_of_output.false)

pub returns : goal.returns
returns g c = λ no.
    all_before (λ other. IsApartFrom (g.P.FileStore.are_apart c.args.store.now) other (place_name c.args.place.now))
    (map (λ f. f.now) c.args.files.now) c.files.other-index c.files.invariant
    (omega (arith, c.files-test.false, length-map c.args.files.now (λ f. f.now)))
