use Rattle.programs.proofs.Common.{rules, List, ℕ, ◌++◌, arith, codes, map, length-map, subst}
use Rattle.programs.specs.Openings.{IsNoSource}
use Rattle.programs.proofs.MatchLemmas.{all_before, none_before, one_before, value_at}
use Rattle.programs.proofs.opening.check_sources_kept.Goals as goal

pub files-init : goal.files-init
files-init g c = search (rules, none_before)

pub files-preserved : goal.files-preserved
files-preserved g c =
    one_before (λ file. IsNoSource (g.P.FileStore.are_apart c.args.store.now) (map (λ f. f.now) c.args.files.now)
    (file ++ codes ".out.csv")) (map (λ f. f.now) c.args.files.now) c.files.file-index _ c.files.invariant
    (value_at (λ f. f.now) c.args.files.now c.files.file-index _ c.files-test.true)
    (subst (λ (name : List ℕ). IsNoSource (g.P.FileStore.are_apart c.args.store.now)
    (map (λ f. f.now) c.args.files.now) name) c.in-Ok.ensures
    (c.is_source.ensures c.if-is_source.false))

pub returns-clause-kept : goal.returns-clause-kept
returns-clause-kept g c =
    all_before (λ file. IsNoSource (g.P.FileStore.are_apart c.args.store.now) (map (λ f. f.now) c.args.files.now)
    (file ++ codes ".out.csv")) (map (λ f. f.now) c.args.files.now) c.files.file-index c.files.invariant
    (omega (arith, c.files-test.false, length-map c.args.files.now (λ f. f.now)))
