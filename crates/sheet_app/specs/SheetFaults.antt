-- Why sheets break off.
use Rattle.std.specs.Prelude.{◌≡◌, ⊤, List}
use Rattle.csv.specs.Records.{fields_of}
use Rattle.register_records.specs.Entries.{Fields}
use Rattle.sheets.specs.declared.name_lists.NameLine.{NameLine}
use Rattle.sheets.specs.declared.sheet_ends.SheetCause.{SheetCause}
use Rattle.sheets.specs.declared.sheet_ends.SheetCause.TheVariants as cause
use Rattle.sheet_arguments.specs.Requests.{Task}
use Rattle.sheet_app.specs.Columns.{IsMissing}
use Rattle.sheet_app.specs.declared.sheet_faults.SheetFault.{SheetFault}
use Rattle.sheet_app.specs.declared.sheet_faults.SheetFault.TheVariants as fault

-- the fault for a cause
abbrev pub fault_by : SheetCause → SheetFault
fault_by cause.NoMemory = fault.OutOfMemory
fault_by cause.SinkFault = fault.Unwritten
fault_by cause.NoNames = fault.NoNames
fault_by cause.TooManyRecords = fault.TooManyRecords

-- memory ran out, or a word of a task has no column among these names, which are told
abbrev pub IsOfColumns : Task → List NameLine → Fields → SheetFault → Type 0
IsOfColumns task lines names fault.OutOfMemory = ⊤
IsOfColumns task lines names (fault.NoColumn word told) = (fields_of told ≡ names) × IsMissing lines names task word.now
IsOfColumns task lines names other = ⊥
