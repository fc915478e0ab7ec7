-- What the numbers of a report say.
use Rattle.std.specs.Prelude.{◌≡◌, ◌+◌, ℕ, List, [], Result, Ok, Err}
use Rattle.register_records.specs.RefusalCounts.{AreCounts}
use Rattle.register_records.specs.Sources.{cause_number}
use Rattle.register_records.specs.declared.ends.Note.{Note}
use Rattle.register_records.specs.declared.ends.SourceEnd.{SourceEnd}
use Rattle.register_records.specs.declared.ends.SourceEnd.TheVariants as end
use Rattle.page_rules.specs.Requests.{fault_number}
use Rattle.page_rules.specs.declared.converting.Converted.{Converted}
use Rattle.page_rules.specs.declared.requests.RequestFault.{RequestFault}
use Rattle.page_module.specs.declared.Report.{Report}

-- each number of the report
pub record Says (report : Report) (ending bytes rows refused : ℕ) (journal : List Note) : Type 0 where
  pub ending_is : report.ending ≡ ending
  pub length_is : report.length ≡ bytes
  pub rows_are : report.rows ≡ rows
  pub refused_are : report.refused ≡ refused
  pub counted : AreCounts report.refused_with journal

-- the report of a text that ended so, with so many bytes in the room
abbrev pub ReportsEnd : Report → SourceEnd → ℕ → Type 0
ReportsEnd report (end.Whole rows refused journal) bytes = Says report 0 bytes rows refused journal.items
ReportsEnd report (end.Broken cause) bytes = Says report (cause_number cause) bytes 0 0 []

-- the report of what was returned: 0 for a whole table, 1 to 8 for a cause, and behind these the faults
abbrev pub Reports : Report → Result Converted RequestFault → Type 0
Reports report (Ok it) = ReportsEnd report it.end it.length
Reports report (Err fault) = Says report (8 + fault_number fault) 0 0 0 []
