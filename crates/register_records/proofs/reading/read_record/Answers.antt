use Rattle.register_records.proofs.Common.{fields_of, inner_remaining}
use Rattle.register_records.proofs.EntryStepLemmas.{reads}
use Rattle.register_records.proofs.reading.read_record.Goals as goal

pub returns-in-Ok-clause-reads : goal.returns-in-Ok-clause-reads
returns-in-Ok-clause-reads g c =
    reads (inner_remaining g.R.Read.remaining) c.args.records.now c.read_byte_record.new.self c.in-Ok.found
    (fields_of c.read_byte_record.new.row)
    (c.in-Ok.ensures.reads c.requires.0 c.requires.1)
