use Rattle.programs.proofs.Common.{map}
use Rattle.programs.specs.OutputNames.{AreTwoOutputs}
use Rattle.programs.specs.Places.{place_name}
use Rattle.programs.proofs.MatchLemmas.{HoldBefore}
use Rattle.programs.proofs.opening.is_taken.Given as goal

-- the output was told apart from the outputs so far
abbrev pub invariant-places : goal.invariant-places
invariant-places g l =
    HoldBefore (λ other. AreTwoOutputs (g.P.FileStore.are_apart l.store) other (place_name l.place))
    (map place_name l.places) l.other-index
