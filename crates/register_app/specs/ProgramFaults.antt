-- Why nothing is done, and what standard error gets of it.
use Rattle.std.specs.Prelude.{◌≡◌, ◌++◌, ℕ, List, codes, IfSome, Option, Some, None, slice_get}
use Rattle.programs.specs.Faults.{Fault, error_line, fault_of_error, status_of_fault}
use Rattle.register_arguments.specs.Requests.{memory_line, name, program_line}
use Rattle.programs.specs.Meanings.{work}
use Rattle.register_arguments.specs.Requests.{IsFaultOf, MeanJust, Task}
use Rattle.programs.specs.Openings.{missing_file}
use Rattle.programs.specs.declared.opening.FileFault.TheVariants as file_fault
use Rattle.register_app.specs.declared.program_faults.ProgramFault.{ProgramFault}
use Rattle.register_app.specs.declared.program_faults.ProgramFault.TheVariants as program_fault

-- what is wrong with the arguments, where that is why; neither running out of memory nor a missing file is such a fault
abbrev pub request_fault_in : ProgramFault → Option Fault
request_fault_in (program_fault.Arguments error) = fault_of_error error
request_fault_in (program_fault.Files fault) = None

-- the file that cannot be opened or made, where that is why
abbrev pub missing_file_in : ProgramFault → Option (List ℕ)
missing_file_in (program_fault.Arguments error) = None
missing_file_in (program_fault.Files fault) = missing_file fault

-- 2 for what is wrong with the arguments, and 3 where memory ran out and for files
abbrev pub fault_status : ProgramFault → ℕ
fault_status (program_fault.Arguments error) = status_of_fault error
fault_status (program_fault.Files fault) = 3

-- the line on standard error; on arguments that are not taken, clap says more
abbrev pub fault_line : ProgramFault → Option (List ℕ)
fault_line (program_fault.Arguments error) = error_line name error
fault_line (program_fault.Files (file_fault.CannotOpen file)) = Some (program_line (codes "cannot open " ++ file.now))
fault_line (program_fault.Files (file_fault.CannotMake file)) =
    Some (program_line (codes "cannot make " ++ (file.now ++ codes ".out.csv")))
fault_line (program_fault.Files file_fault.OutOfMemory) = Some memory_line

-- the file that cannot be opened or made, where that is why, is one of those whose tables the arguments ask for
abbrev pub IsOfAsked : List (List ℕ) → ProgramFault → Type 0
IsOfAsked arguments why = IfSome (missing_file_in why) (λ file.
    (task : Task) × MeanJust arguments (work task) × (i : ℕ) × (slice_get task.files i ≡ Some file))

-- nothing is done for this reason: something is wrong with the arguments, or memory ran out, or a file is missing
abbrev pub IsFaultOfAsked : List (List ℕ) → ProgramFault → Type 0
IsFaultOfAsked arguments why = IfSome (request_fault_in why) (IsFaultOf arguments) × IsOfAsked arguments why
