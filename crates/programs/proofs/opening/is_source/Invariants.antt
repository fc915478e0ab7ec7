use Rattle.programs.proofs.Common.{map}
use Rattle.programs.specs.OutputNames.{IsApartFrom}
use Rattle.programs.specs.Places.{place_name}
use Rattle.programs.proofs.MatchLemmas.{HoldBefore}
use Rattle.programs.proofs.opening.is_source.Given as goal

-- the files so far were told apart from the output
abbrev pub invariant-files : goal.invariant-files
invariant-files g l =
    HoldBefore (λ other. IsApartFrom (g.P.FileStore.are_apart l.store) other (place_name l.place))
    (map (λ f. f.now) l.files) l.other-index
