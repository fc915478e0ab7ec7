use Rattle.programs.proofs.Common.{◌≡◌, ◌+◌, ◌++◌, map, codes, IsNewlyMade}
use Rattle.programs.specs.OutputNames.{AreTwoOutputs}
use Rattle.programs.specs.Places.{place_name}
use Rattle.programs.proofs.MatchLemmas.{HoldOfPairs, AreMatchedSoFar}
use Rattle.programs.proofs.opening.make_outputs.Given as goal

-- the outputs and their places are those of the files so far, the mark is the last one's, and these were told apart
abbrev pub invariant-files : goal.invariant-files
invariant-files g l = (l.mark ≡ l.file-index)
    × AreMatchedSoFar (λ i file output. IsNewlyMade g.W.Output
    (g.P.FileStore.is_made l.store) (file ++ codes ".out.csv") (i + 1) output)
    (map (λ f. f.now) l.files) l.outputs.items l.file-index
    × AreMatchedSoFar (λ i file place. place_name place ≡ file ++ codes ".out.csv") (map (λ f. f.now) l.files)
    l.places.items l.file-index
    × HoldOfPairs (λ file later. AreTwoOutputs (g.P.FileStore.are_apart l.store) (file ++ codes ".out.csv")
    (later ++ codes ".out.csv")) (map (λ f. f.now) l.files) l.file-index
