use Rattle.std.proofs.Common.{◌≡◌, ◌-◌, Some, false, length}
use Rattle.register_records.specs.Entries.{record_limit}
use Rattle.register_records.specs.Views.{given_of, reader_failed, reading_of, reads_by, targets_of, text_of}
use Rattle.page_rules.specs.EntryDays.{AreDaysOf}
use Rattle.page_rules.proofs.registers.register_days.Given as goal

abbrev pub invariant-entries : goal.invariant-entries
invariant-entries l =
    record {
      text : text_of l.entries ≡ Some l.text;
      by : reads_by l.entries ≡ reading_of l.setup;
      failed : reader_failed l.entries ≡ false;
      days : AreDaysOf (targets_of l.setup) (given_of l.entries) l.days.items;
    }

abbrev pub decreases-entries : goal.decreases-entries
decreases-entries l = record_limit - length (given_of l.entries)
