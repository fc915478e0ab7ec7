use Rattle.register_records.proofs.Common.{fields_of}
use Rattle.register_records.proofs.FieldLemmas.{agrees_by_second, second_there}
use Rattle.register_records.proofs.seals.number_in.Goals as goal

pub returns-in_err-second : goal.returns-in_err-second
returns-in_err-second c = second_there (fields_of c.args.seal.now) c.requires c.in_err-second.ensures.value

pub returns : goal.returns
returns c n =
    let read = c.number_of.ensures n in
    let same =
    agrees_by_second (fields_of c.args.seal.now) c.in_ok-second.second.now n c.requires c.in_ok-second.ensures.value
    in
    (λ e. same.1 (rw (← c.trimmed.ensures) (read.0 e)), λ a. read.1 (rw c.trimmed.ensures (same.0 a)))
