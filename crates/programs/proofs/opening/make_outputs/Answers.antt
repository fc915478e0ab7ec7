-- Each turn makes the next output, and tells its name apart from those before.
use Rattle.programs.proofs.Common.{◌≡◌, ◌∙◌, ◌+◌, ◌++◌, ap, rules, arith, codes, is_ok, map, true, slice_get}
use Rattle.programs.proofs.Common.{length-map, IsNewlyMade}
use Rattle.programs.specs.OutputNames.{AreTwoOutputs}
use Rattle.programs.specs.Places.{place_name}
use Rattle.programs.proofs.MatchLemmas.{all_pairs, apart_from_earlier, more_pairs, no_pairs, value_at, made_as}
use Rattle.programs.proofs.MatchLemmas.{matched_values}
use Rattle.programs.proofs.MatchLemmas.{so_far_all, so_far_more, so_far_none}
use Rattle.programs.proofs.opening.make_outputs.Goals as goal

pub files-init : goal.files-init
files-init g c = search (rules, so_far_none, no_pairs)

pub files-preserved : goal.files-preserved
files-preserved g c =
    let ok : is_ok c.push.result ≡ true = search rules in
    let items = rw ok at c.push.ensures.items in
    let also : is_ok c.push-else-is_err.result ≡ true = search rules in
    let named = rw also at c.push-else-is_err.ensures.items in
    let place = c.files.invariant.0 in (
      ap (λ n. n + 1) place,
      so_far_more (λ i file output. IsNewlyMade g.W.Output
          (g.P.FileStore.is_made c.args.store.now) (file ++ codes ".out.csv") (i + 1) output)
          (λ f. f.now) c.args.files.now c.files.outputs.items c.push.new.self.items
          c.files.file-index _ c.in-Ok-make.output c.files.invariant.1 c.files-test.true
          (made_as (λ text mark output. IsNewlyMade g.W.Output
          (g.P.FileStore.is_made c.args.store.now) text mark output) (place_name c.in-Ok.place) _
          c.files.mark c.files.file-index c.in-Ok-make.output
          c.in-Ok.ensures place c.in-Ok-make.ensures.made)
          items,
      so_far_more (λ i file place. place_name place ≡ file ++ codes ".out.csv") (λ f. f.now) c.args.files.now
          c.files.places.items c.push-else-is_err.new.self.items c.files.file-index _ c.make.new.place c.files.invariant.2
          c.files-test.true (c.make.ensures.kept ∙ c.in-Ok.ensures) named,
      more_pairs (λ file later. AreTwoOutputs (g.P.FileStore.are_apart c.args.store.now) (file ++ codes ".out.csv")
          (later ++ codes ".out.csv")) (map (λ f. f.now) c.args.files.now) c.files.file-index _ c.files.invariant.3
          (value_at (λ f. f.now) c.args.files.now c.files.file-index _ c.files-test.true)
          (apart_from_earlier (AreTwoOutputs (g.P.FileStore.are_apart c.args.store.now)) place_name
          (map (λ f. f.now) c.args.files.now)
          c.files.places.items (place_name c.make.new.place) _ c.files.file-index c.files.invariant.2
          (c.make.ensures.kept ∙ c.in-Ok.ensures)
          (λ k other is. c.is_taken.ensures c.if-is_taken.false k other
          (ap (λ places. slice_get (map place_name places) k) c.as_slice.ensures.value ∙ is))),
    )

pub returns-clause-made : goal.returns-clause-made
returns-clause-made g c =
    so_far_all (λ i file output. IsNewlyMade g.W.Output
    (g.P.FileStore.is_made c.args.store.now) (file ++ codes ".out.csv") (i + 1) output)
    (λ f. f.now) c.args.files.now c.files.outputs.items c.files.file-index c.files.invariant.1
    (omega (arith, c.files-test.false, c.files.auto.file-index-end))

pub returns-clause-placed : goal.returns-clause-placed
returns-clause-placed g c =
    matched_values (λ file. file ++ codes ".out.csv") place_name (map (λ f. f.now) c.args.files.now)
    c.files.places.items
    (so_far_all (λ i file place. place_name place ≡ file ++ codes ".out.csv")
    (λ f. f.now) c.args.files.now c.files.places.items c.files.file-index c.files.invariant.2
    (omega (arith, c.files-test.false, c.files.auto.file-index-end)))

pub returns-clause-apart : goal.returns-clause-apart
returns-clause-apart g c =
    all_pairs (λ file later. AreTwoOutputs (g.P.FileStore.are_apart c.args.store.now) (file ++ codes ".out.csv")
    (later ++ codes ".out.csv")) (map (λ f. f.now) c.args.files.now) c.files.file-index c.files.invariant.3
    (omega (arith, c.files-test.false, c.files.auto.file-index-end, length-map c.args.files.now (λ f. f.now)))

pub returns-in_default-make-clause-named : goal.returns-in_default-make-clause-named
returns-in_default-make-clause-named g c = search (rules, value_at)

pub returns-then-is_taken-clause-named : goal.returns-then-is_taken-clause-named
returns-then-is_taken-clause-named g c = search (rules, value_at)
