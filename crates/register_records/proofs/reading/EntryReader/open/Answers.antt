use Rattle.register_records.proofs.Common.{◌≡◌, length, sym, ap, ◌∙◌, rules, fields_of, inner_remaining}
use Rattle.register_records.proofs.EntryStepLemmas.{at_start}
use Rattle.register_records.proofs.GivenLemmas.{first_step, may_first}
use Rattle.register_records.proofs.reading.EntryReader.open.Goals as goal
use Rattle.csv.specs.Reading.{default_config, reader_config}
use Rattle.register_records.specs.ReadingState.{records_left}

pub invariant_of-result : goal.invariant_of-result
invariant_of-result g c =
    let fr = c.from_reader-records.ensures in
    let config : reader_config c.from_reader-records.result
    ≡ record default_config { delimiter = c.args.setup.now.delimiter } = search rules in
    let start =
    at_start (inner_remaining g.R.Read.remaining) c.from_reader-records.result c.args.setup.now.delimiter
    (g.R.Read.remaining c.args.reader) config fr.state (rw (← c.new-patient.ensures) fr.source) in
    let read = rw start at c.in_ok-found.ensures.reads in
    let has_read =
    first_step (records_left (inner_remaining g.R.Read.remaining) c.read_record.new.records)
    (fields_of c.read_record.new.csv_record) (ap g.R.Read.remaining c.of-source.ensures) c.delimiter-3.ensures.value
    (c.form-2.ensures ∙ sym c.form.ensures) c.new-2.ensures
    (rw c.if-not-found.false at read) (c.is_header.ensures.0 c.if-not-is_header.false) in
    let first = may_first has_read in let counted = ap length c.new-2.ensures in
    search (rules, has_read, first, counted)
