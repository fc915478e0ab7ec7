use Rattle.register_records.specs.private.Seen.{fields_seen}
use Rattle.register_records.proofs.BareLemmas.{utf8_texts}
use Rattle.register_records.proofs.entries.Body.set.Goals as goal

pub refusal-requires : goal.refusal-requires
refusal-requires c plain =
    utf8_texts c.args.form c.args.csv_record.now.ends c.args.csv_record.now.bytes (fields_seen c.in-Some.fields)
    c.in-Some.ensures (c.requires plain)
