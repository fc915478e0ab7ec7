-- Checks in order, one list of them behind another.
use Rattle.std.proofs.Common.{◌≡◌, ◌++◌, List, [], ◌∷◌, inl, inr, IfErr, IfSome, IsErrAnd, Result}
use Rattle.clap.proofs.TakesLemmas.{passed_up}
use Rattle.programs.proofs.MeaningLemmas.{found_first}
use Rattle.programs.specs.Faults.{Fault, fault_of_error}
use Rattle.programs.specs.Meanings.{AllPass, Check, FailFirst}
use Rattle.programs.specs.declared.request_faults.RequestFault.{RequestFault}

-- where a check finds a fault, which is that of the first check that fails, the error that is passed up is that
pub found_up : {T : Type 0} (result : Result T RequestFault) (error : RequestFault) (checks : List Check)
    (fails : Fault → Type 0) → IsErrAnd result (λ up. up ≡ error) → IfSome (fault_of_error error) fails
    → ((fault : Fault) → fails fault → FailFirst checks fault)
    → IfErr result (λ first. IfSome (fault_of_error first) (FailFirst checks))
found_up result error checks fails up found first =
    passed_up result error (λ (r : RequestFault). IfSome (fault_of_error r) (FailFirst checks)) up
    (found_first (fault_of_error error) fails checks found first)

-- checks and later ones pass together
pub both_pass : (checks later : List Check) → AllPass checks → AllPass later → AllPass (checks ++ later)
both_pass [] later pass rest = rest
both_pass (check ∷ checks) later pass rest = (pass.0, both_pass checks later pass.1 rest)

-- where checks and later ones pass together, both pass
pub each_pass : (checks later : List Check) → AllPass (checks ++ later) → AllPass checks × AllPass later
each_pass [] later pass = (tt, pass)
each_pass (check ∷ checks) later pass = let rest = each_pass checks later pass.1 in ((pass.0, rest.0), rest.1)

-- the first of some checks that fails is the first of these and later ones
pub among_first : (checks later : List Check) (fault : Fault) → FailFirst checks fault
    → FailFirst (checks ++ later) fault
among_first [] later fault is = absurd is
among_first (check ∷ checks) later fault (inl is) = inl is
among_first (check ∷ checks) later fault (inr is) = inr (is.0, among_first checks later fault is.1)

-- the first of later checks that fails is the first of all, where those before pass
pub behind : (checks later : List Check) (fault : Fault) → AllPass checks → FailFirst later fault
    → FailFirst (checks ++ later) fault
behind [] later fault pass is = is
behind (check ∷ checks) later fault pass is = inr (pass.0, behind checks later fault pass.1 is)
