-- What is reported where arguments are refused.
use Rattle.std.proofs.Common.{◌≡◌, List, Option, ℕ, refl, false}
use Rattle.std.specs.Io.KnownBytes.{Appends}
use Rattle.clap.specs.Words.{Text}
use Rattle.register_records.specs.declared.outputs.Output as outputs
use Rattle.programs.specs.Refusals.{IsTold}
use Rattle.programs.proofs.RefusedLemmas.{cause_told}
use Rattle.sheet_arguments.specs.Requests.{memory_line, name}
use Rattle.sheet_app.specs.Answers.{IsReported}
use Rattle.sheet_app.specs.ProgramFaults.{IsFaultOfAsked, fault_line, fault_status}
use Rattle.sheet_app.specs.declared.program_faults.ProgramFault.{ProgramFault}
use Rattle.sheet_app.specs.declared.program_faults.ProgramFault.TheVariants as program_fault

-- where memory ran out, that is why
out_of_memory : (arguments : List Text) (before after : Option (List ℕ)) → Appends before after memory_line
    → IsReported arguments 3 before after
out_of_memory arguments before after line =
    record { why = program_fault.OutOfMemory; is_its = refl; cause = tt; line = line }

-- why nothing is done is reported
pub is_reported : {E : Type 0} (arguments : List Text) (e : outputs.Ghosts E) (why : ProgramFault) (status : ℕ)
    (before after : E) → IsTold fault_status fault_line e name why status before after → IsFaultOfAsked arguments why
    → e.has_failed after ≡ false → IsReported arguments status (e.contents before) (e.contents after)
is_reported arguments e why status before after told =
    cause_told fault_status fault_line e name why status before after told (IsFaultOfAsked arguments)
    (out_of_memory arguments _ _)
