use Rattle.std.proofs.Common.{◌≡◌, take, true}
use Rattle.sheets.proofs.Common.{fields_of}
use Rattle.std.specs.List.{list_all}
use Rattle.sheets.specs.DateCounts.{is_blank}
use Rattle.sheets.proofs.date_counts.is_blank_record.Given as goal

abbrev pub invariant-fields : goal.invariant-fields
invariant-fields l = list_all is_blank (take l.place (fields_of l.record)) ≡ true
