-- What arguments ask for, as clap finds it.
use Rattle.std.specs.Prelude.{◌≡◌, ◌≢◌, ⊤, List, []}
use Rattle.clap.specs.Values.{kind_of}
use Rattle.clap.specs.Words.{App, IsAmong, Text, fault_of, found_of, matches_of, rows_of}
use Rattle.clap.specs.declared.error.kind.ErrorKind.TheVariants.{DisplayHelp, DisplayVersion}
use Rattle.clap.specs.declared.parser.matches.ArgMatches.{ArgMatches}
use Rattle.programs.specs.Meanings.{Meaning, help, version, work}
use Rattle.programs.specs.declared.requests.Request.{Request}
use Rattle.programs.specs.declared.requests.Request.TheVariants as request
use Rattle.programs.specs.declared.request_faults.RequestFault.{RequestFault}
use Rattle.programs.specs.declared.request_faults.RequestFault.TheVariants as request_fault

-- what a request stands for, by what its job asks for
abbrev pub meaning_by : {J T : Type 0} → (J → T) → Request J → Meaning T
meaning_by task_of request.Help = help
meaning_by task_of request.Version = version
meaning_by task_of (request.Convert job) = work (task_of job)

-- arguments have this by a command: they ask for a page, or these values are theirs
abbrev pub AreRead : App → List Text → Request ArgMatches → Type 0
AreRead app arguments request.Help = IsAmong DisplayHelp (fault_of app arguments)
AreRead app arguments request.Version = IsAmong DisplayVersion (fault_of app arguments)
AreRead app arguments (request.Convert matches) =
    (fault_of app arguments ≡ []) × (rows_of (found_of matches) ≡ matches_of app arguments)

-- they are not read for this reason: what is wrong with them, or that memory ran out
abbrev pub AreUnread : App → List Text → RequestFault → Type 0
AreUnread app arguments request_fault.OutOfMemory = ⊤
AreUnread app arguments (request_fault.Usage error) =
    IsAmong (kind_of error) (fault_of app arguments) × (kind_of error ≢ DisplayHelp) × (kind_of error ≢ DisplayVersion)
AreUnread app arguments (request_fault.Refused what word) = ⊥
