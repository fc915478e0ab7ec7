-- Why nothing is done, and what standard error gets of it.
use Rattle.std.specs.Prelude.{◌++◌, ◌⊎◌, ⊤, ℕ, Contains, IfSome, List, codes, Option, Some}
use Rattle.std.specs.Fmt.{decimal}
use Rattle.std.specs.String.{string_bytes}
use Rattle.clap.specs.Words.{Text}
use Rattle.programs.specs.Faults.{error_line, fault_of_error, status_of_fault}
use Rattle.programs.specs.Meanings.{work}
use Rattle.sheets.specs.declared.name_lists.NameListFault.{NameListFault}
use Rattle.sheets.specs.declared.name_lists.NameListFault.TheVariants as list_fault
use Rattle.sheet_arguments.specs.Requests.{memory_line, name, program_line, IsFaultOf, MeanJust, Task}
use Rattle.sheet_app.specs.CalendarWords.{calendar_words}
use Rattle.sheet_app.specs.FileSheets.{outputs_of}
use Rattle.sheet_app.specs.declared.file_sheets.FileFault.{FileFault}
use Rattle.sheet_app.specs.declared.file_sheets.FileFault.TheVariants as file_fault
use Rattle.sheet_app.specs.declared.program_faults.ProgramFault.{ProgramFault}
use Rattle.sheet_app.specs.declared.program_faults.ProgramFault.TheVariants as program_fault

-- the files of a task are not there for this reason: memory ran out, or a file that is opened for it, or one that is made,
-- is missing
abbrev pub IsFaultOfFiles : Task → FileFault → Type 0
IsFaultOfFiles task (file_fault.CannotOpen file) = Contains task.files file.now ⊎ Contains task.names file.now
IsFaultOfFiles task (file_fault.CannotMake name) = Contains (outputs_of task) (string_bytes name)
IsFaultOfFiles task file_fault.OutOfMemory = ⊤

-- a task is not begun for this reason: memory ran out, a file is missing, or a list of names cannot be read or is none
abbrev pub IsFaultOfTask : Task → ProgramFault → Type 0
IsFaultOfTask task (program_fault.Files fault) = IsFaultOfFiles task fault
IsFaultOfTask task (program_fault.UnreadList file) = Contains task.names file.now
IsFaultOfTask task (program_fault.NoList file fault) = Contains task.names file.now
IsFaultOfTask task (program_fault.UnknownCalendar word) = ⊥
IsFaultOfTask task program_fault.OutOfMemory = ⊤
IsFaultOfTask task (program_fault.Arguments error) = ⊥

-- nothing is done for this reason: the arguments are wrong, memory ran out, or the task that they ask for is not begun, or
-- has a word for calendars that is not known
abbrev pub IsFaultOfAsked : List Text → ProgramFault → Type 0
IsFaultOfAsked arguments (program_fault.Arguments error) = IfSome (fault_of_error error) (IsFaultOf arguments)
IsFaultOfAsked arguments program_fault.OutOfMemory = ⊤
IsFaultOfAsked arguments (program_fault.UnknownCalendar word) =
    (task : Task) × MeanJust arguments (work task) × Contains (calendar_words task.calendars) word.now
IsFaultOfAsked arguments fault = (task : Task) × MeanJust arguments (work task) × IsFaultOfTask task fault

-- 2 for what is wrong with the arguments, also by the lists of names, and 3 for the rest
abbrev pub fault_status : ProgramFault → ℕ
fault_status (program_fault.Arguments error) = status_of_fault error
fault_status (program_fault.UnknownCalendar word) = 2
fault_status other = 3

-- the line on a list of names that is none
abbrev pub list_line : List ℕ → NameListFault → List ℕ
list_line file list_fault.OutOfMemory = memory_line
list_line file list_fault.Header = program_line (codes "not name,means,in at the head of " ++ file)
list_line file (list_fault.Means number) =
    program_line (codes "bad list of names " ++ ((file ++ codes ": means of record ") ++ decimal number))
list_line file (list_fault.In number) =
    program_line (codes "bad list of names " ++ ((file ++ codes ": in of record ") ++ decimal number))
list_line file (list_fault.Name number) =
    program_line (codes "bad list of names " ++ ((file ++ codes ": name of record ") ++ decimal number))

-- the line on standard error; on arguments that are not taken, clap says more
abbrev pub fault_line : ProgramFault → Option (List ℕ)
fault_line (program_fault.Arguments error) = error_line name error
fault_line (program_fault.Files (file_fault.CannotOpen file)) = Some (program_line (codes "cannot open " ++ file.now))
fault_line (program_fault.Files (file_fault.CannotMake name)) =
    Some (program_line (codes "cannot make " ++ string_bytes name))
fault_line (program_fault.Files file_fault.OutOfMemory) = Some memory_line
fault_line (program_fault.UnreadList file) = Some (program_line (codes "cannot read " ++ file.now))
fault_line (program_fault.NoList file fault) = Some (list_line file.now fault)
fault_line (program_fault.UnknownCalendar word) = Some (program_line (codes "unknown calendar: " ++ word.now))
fault_line program_fault.OutOfMemory = Some memory_line
