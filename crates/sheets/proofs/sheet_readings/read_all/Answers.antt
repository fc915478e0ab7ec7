use Rattle.std.proofs.Common.{◌∙◌, ◌∷◌, [], ap, arith, length, length-append, refl, subst, sym}
use Rattle.sheets.proofs.Common.{given_of, Takes, AreRecordsRead, record_read}
use Rattle.sheets.specs.private.SheetRecords.{IsRecordRead}
use Rattle.sheets.specs.declared.choices.SheetSetup.{SheetSetup}
use Rattle.sheets.specs.declared.sheet_records.SheetRecord.{SheetRecord}
use Rattle.sheets.proofs.ReadingLemmas.{has_read, has_stopped, reads_more}
use Rattle.sheets.proofs.TakeLemmas.{takes_more, takes_none}
use Rattle.sheets.proofs.sheet_readings.read_all.Goals as goal

pub records-init : goal.records-init
records-init g c =
    let none = c.requires.opened.none_given in
    record {
      goes = c.requires.opened.goes;
      setup = c.requires.opened.goes_by;
      records = refl;
      read = subst (AreRecordsRead c.args.setup.now.choice 0) (sym none) tt;
      takes = takes_none g.W.Output g.M.RecordLine.line c.args.setup.now.choice _ c.args.writers.now c.args.output.now
          c.args.files.now none;
    }

pub records-smaller : goal.records-smaller
records-smaller g c =
    let next = rw (c.in_ok-read_next.was, c.if-branch.true) at c.read_next.ensures.given in
    omega (
      arith,
      ap length next.gives,
      length-append (given_of c.records.reader) (record_read c.read_next.new.self.of_sheet ∷ []),
      next.few,
    )

pub take-requires : goal.take-requires
take-requires g c =
    let inv = c.records.invariant in
    let read = c.read_next.ensures in
    let next = rw (c.in_ok-read_next.was, c.if-branch.true) at read.given in
    let ready = c.requires.ready in
    record {
      space = record {
        reads = given_of c.records.reader;
        most = ready.most;
        are_noted = inv.takes.notes [] ready.most ready.none_noted;
        few = next.few;
      };
      read = subst (λ (r : SheetRecord). IsRecordRead c.args.setup.now.choice (record_read r)) (sym c.of_sheet.ensures)
          (subst (λ (setup : SheetSetup). IsRecordRead setup.choice (record_read c.read_next.new.self.of_sheet))
          (read.setup ∙ inv.setup) next.read);
      matched = inv.takes.registers.writers ∙ ready.matched ∙ sym inv.takes.registers.files;
    }

pub records-preserved : goal.records-preserved
records-preserved g c =
    let inv = c.records.invariant in
    let read = c.read_next.ensures in
    let next = rw (c.in_ok-read_next.was, c.if-branch.true) at read.given in
    let choice = c.args.setup.now.choice in
    let one = record_read c.read_next.new.self.of_sheet in
    record {
      goes = next.goes;
      setup = read.setup ∙ inv.setup;
      records = read.records ∙ inv.records;
      read = subst (AreRecordsRead choice 0) (sym next.gives)
          (reads_more choice 0 (given_of c.records.reader) one (omega (arith, next.number)) inv.read
          (subst (λ (setup : SheetSetup). IsRecordRead setup.choice one) (read.setup ∙ inv.setup) next.read));
      takes = takes_more g.W.Output g.M.RecordLine.line choice _ _ one _ _ _ _ _ _ _ _ _ next.gives inv.takes
          (subst (λ (r : SheetRecord). Takes g.W.Output g.M.RecordLine.line choice (record_read r ∷ [])
          c.records.writers
          c.take.new.self c.records.output c.take.new.output c.records.files c.take.new.files) c.of_sheet.ensures
          c.take.ensures);
    }

pub returns-in_err-read_next : goal.returns-in_err-read_next
returns-in_err-read_next g c =
    let inv = c.records.invariant in
    let read = c.read_next.ensures in
    record {
      reads = given_of c.records.reader;
      read = has_stopped c.args.setup.now.choice _ c.records.reader c.read_next.new.self inv.records read.records
          inv.read _ c.from_residual.result c.from_residual.ensures.1 (rw c.in_err-read_next.was at read.given);
      takes = inv.takes;
    }

pub returns : goal.returns
returns g c =
    let inv = c.records.invariant in
    let read = c.read_next.ensures in
    record {
      reads = given_of c.records.reader;
      read = has_read c.args.setup.now.choice _ c.records.reader c.read_next.new.self inv.records read.records inv.read
          (rw (c.in_ok-read_next.was, c.if-branch.false) at read.given);
      takes = inv.takes;
    }
