-- The cause that a fault is. Where an earlier call returned a fault, nothing is known of what was passed on since.
use Rattle.register_records.specs.declared.reading.EntryFault.{EntryFault}
use Rattle.register_records.specs.declared.reading.EntryFault.TheVariants as entry
use Rattle.register_records.specs.declared.writing.RowFault.{RowFault}
use Rattle.register_records.specs.declared.writing.RowFault.TheVariants as row
use Rattle.register_records.specs.declared.ends.Cause.{Cause}
use Rattle.register_records.specs.declared.ends.Cause.TheVariants as cause

-- of a fault of reading entries
abbrev pub entry_fault_cause : EntryFault → Cause
entry_fault_cause entry.OutOfMemory = cause.NoMemory
entry_fault_cause entry.ReadFault = cause.ReadFault
entry_fault_cause entry.BadHeader = cause.BadHeader
entry_fault_cause entry.TooManyRecords = cause.TooManyRecords
entry_fault_cause entry.NotSealed = cause.NotSealed
entry_fault_cause entry.Failed = cause.Unconfirmed

-- of a fault of writing rows
abbrev pub row_fault_cause : RowFault → Cause
row_fault_cause row.OutOfMemory = cause.NoMemory
row_fault_cause row.WriteFault = cause.SinkFault
row_fault_cause row.Failed = cause.Unconfirmed
