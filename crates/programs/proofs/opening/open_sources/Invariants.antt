use Rattle.programs.proofs.Common.{map}
use Rattle.programs.proofs.MatchLemmas.{AreMatchedSoFar}
use Rattle.programs.proofs.opening.open_sources.Given as goal

-- the sources are those of the files so far
abbrev pub invariant-files : goal.invariant-files
invariant-files g l = AreMatchedSoFar (λ i file source. g.P.FileStore.is_opened l.store file source)
    (map (λ f. f.now) l.files) l.sources.items l.file-index
