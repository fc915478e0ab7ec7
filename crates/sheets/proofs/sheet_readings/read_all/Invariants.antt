use Rattle.std.proofs.Common.{◌≡◌, ◌-◌, length, true}
use Rattle.sheets.proofs.Common.{record_limit, given_of, Takes, AreRecordsRead}
use Rattle.sheets.specs.private.SheetReaders.{goes_on, records_under}
use Rattle.sheets.proofs.sheet_readings.read_all.Given as goal

abbrev pub invariant-records : goal.invariant-records
invariant-records g l =
    record {
      goes : goes_on l.reader ≡ true;
      setup : l.reader.setup ≡ l.setup;
      records : records_under l.reader ≡ records_under l.fn.reader;
      read : AreRecordsRead l.setup.choice 0 (given_of l.reader);
      takes : Takes g.W.Output g.M.RecordLine.line l.setup.choice (given_of l.reader) l.fn.writers l.writers l.fn.output
          l.output l.fn.files l.files;
    }

abbrev pub decreases-records : goal.decreases-records
decreases-records g l = record_limit - length (given_of l.reader)
