use Rattle.programs.proofs.Common.{◌++◌, codes, map}
use Rattle.programs.specs.Openings.{IsNoSource}
use Rattle.programs.proofs.MatchLemmas.{HoldBefore}
use Rattle.programs.proofs.opening.check_sources_kept.Given as goal

-- the output of each file so far goes to none of the files
abbrev pub invariant-files : goal.invariant-files
invariant-files g l =
    HoldBefore (λ file. IsNoSource (g.P.FileStore.are_apart l.store) (map (λ f. f.now) l.files)
    (file ++ codes ".out.csv")) (map (λ f. f.now) l.files) l.file-index
