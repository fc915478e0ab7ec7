-- What can be wrong with arguments, and what is said of it.
use Rattle.std.specs.Prelude.{◌++◌, ℕ, List, Option, None, Some}
use Rattle.std.specs.Option.{option_map_or}
use Rattle.clap.specs.Values.{kind_of}
use Rattle.clap.specs.declared.error.kind.ErrorKind.{ErrorKind}
use Rattle.programs.specs.OwnLines.{memory_line, program_line}
use Rattle.programs.specs.declared.request_faults.RequestFault.{RequestFault}
use Rattle.programs.specs.declared.request_faults.RequestFault.TheVariants as request_fault

-- the options are not written as they are taken, or else something is wrong of which this is said
pub data Fault : Type 0 where
  usage : ErrorKind → Fault
  refused : List ℕ → Fault

-- the fault that an error is; running out of memory is none
abbrev pub fault_of_error : RequestFault → Option Fault
fault_of_error request_fault.OutOfMemory = None
fault_of_error (request_fault.Usage error) = Some (usage (kind_of error))
fault_of_error (request_fault.Refused what word) = Some (refused (what.now ++ word.now))

-- 2 for what is wrong with the arguments, and 3 where memory ran out
abbrev pub status_of_fault : RequestFault → ℕ
status_of_fault error = option_map_or (λ fault. 2) (fault_of_error error) 3

-- the line on standard error of the program of this name; on arguments that are not taken, clap says more
abbrev pub error_line : List ℕ → RequestFault → Option (List ℕ)
error_line program request_fault.OutOfMemory = Some (memory_line program)
error_line program (request_fault.Usage error) = None
error_line program (request_fault.Refused what word) = Some (program_line program (what.now ++ word.now))
