-- What the option asks for is what its list means.
use Rattle.std.proofs.Common.{refl, Ok}
use Rattle.std.proofs.lemmas.Result.{IfErr-weaker, IfOk-weaker}
use Rattle.programs.specs.Faults.{fault_of_error}
use Rattle.register_arguments.proofs.ListLemmas.{found_in_list}
use Rattle.register_arguments.proofs.requests.chosen_targets.Goals as goal

pub returns-in-Some-clause-value : goal.returns-in-Some-clause-value
returns-in-Some-clause-value c =
    rw (← c.value_given.ensures, c.in-Some.is) (IfOk-weaker c.read_targets.result _ _
    (λ targets just. (just (Ok targets.items)).0 refl) c.read_targets.ensures.value)

pub returns-in-Some-clause-fault : goal.returns-in-Some-clause-fault
returns-in-Some-clause-fault c =
    rw (← c.value_given.ensures, c.in-Some.is) (IfErr-weaker c.read_targets.result _ _
    (λ refusal found. found_in_list c.in-Some.list.now (fault_of_error refusal) found) c.read_targets.ensures.fault)
