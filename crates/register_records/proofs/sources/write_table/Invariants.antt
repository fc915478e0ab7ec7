use Rattle.register_records.proofs.Common.{◌≡◌, ◌-◌, false, length, None, record_limit, table_fault, given_of}
use Rattle.register_records.proofs.Common.{reader_failed, reading_of, reads_by, text_of}
use Rattle.register_records.proofs.TableLemmas.{Follows}
use Rattle.register_records.proofs.sources.write_table.Given as goal

abbrev pub invariant-entries : goal.invariant-entries
invariant-entries g l =
    record {
      text : text_of l.entries ≡ text_of l.fn.entries;
      by : reads_by l.entries ≡ reading_of l.setup;
      failed : reader_failed l.entries ≡ false;
      open_ : table_fault l.table ≡ None;
      follows : Follows g.W.Output l.fn.output l.setup (text_of l.fn.entries) (given_of l.entries) l.table l.output;
    }

abbrev pub decreases-entries : goal.decreases-entries
decreases-entries g l = record_limit - length (given_of l.entries)
