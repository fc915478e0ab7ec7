-- When arguments are refused, and what is reported then.
use Rattle.std.proofs.Common.{◌≡◌, ◌≢◌, ◌⊎◌, List, Option, ℕ, refl, ◌↔◌, IfSome, false}
use Rattle.std.specs.Option.{option_map_or}
use Rattle.std.specs.Io.KnownBytes.{Appends}
use Rattle.clap.specs.Words.{Text}
use Rattle.register_records.specs.declared.outputs.Output as outputs
use Rattle.programs.specs.Meanings.{Meaning, wrong}
use Rattle.programs.specs.Refusals.{IsTold}
use Rattle.programs.proofs.RefusedLemmas as refused
use Rattle.programs.specs.Faults.{Fault}
use Rattle.programs.specs.declared.request_faults.RequestFault.TheVariants as request_fault
use Rattle.register_arguments.specs.Requests.{memory_line, name}
use Rattle.register_arguments.specs.Requests.{AreWrong, MeanJust, Task, register_line}
use Rattle.register_app.specs.Answers.{IsReported}
use Rattle.register_app.specs.ProgramFaults.{IsFaultOfAsked, fault_line, fault_status}
use Rattle.register_app.specs.declared.program_faults.ProgramFault.{ProgramFault}
use Rattle.register_app.specs.declared.program_faults.ProgramFault.TheVariants as program_fault

-- arguments that ask for something are not refused
pub never_refused : (arguments : List Text) (meaning : Meaning Task) (status : ℕ) → MeanJust arguments meaning
    → ((fault : Fault) → wrong fault ≢ meaning) → status ≢ 2
    → (status ≡ 2) ↔ AreWrong arguments
never_refused arguments meaning status just differs other =
    (λ e. absurd (other e), λ is. absurd (refused.never_wrong register_line arguments meaning just differs is))

-- arguments that are wrong are, unless there was no memory or a file was missing
pub is_refused : (arguments : List Text) (found : Option Fault) (status : ℕ)
    → IfSome found (λ fault. MeanJust arguments (wrong fault))
    → (status ≡ 3) ⊎ (status ≡ option_map_or (λ fault. 2) found 3) → status ≢ 3 → (status ≡ 2) ↔ AreWrong arguments
is_refused arguments found status just is had =
    (refused.are_wrong register_line arguments found status just is, λ wrong. refused.is_refused found status is had)

-- where memory ran out, that is why
pub out_of_memory : (arguments : List Text) (before after : Option (List ℕ))
    → Appends before after memory_line → IsReported arguments 3 before after
out_of_memory arguments before after line = record {
  why = program_fault.Arguments request_fault.OutOfMemory;
  is_its = refl;
  cause = (tt, tt);
  line = line;
}

-- why nothing is done is reported
pub is_reported : {E : Type 0} (arguments : List Text) (e : outputs.Ghosts E) (why : ProgramFault) (status : ℕ)
    (before after : E) → IsTold fault_status fault_line e name why status before after → IsFaultOfAsked arguments why
    → e.has_failed after ≡ false → IsReported arguments status (e.contents before) (e.contents after)
is_reported arguments e why status before after told =
    refused.cause_told fault_status fault_line e name why status before after told (IsFaultOfAsked arguments)
    (out_of_memory arguments _ _)
