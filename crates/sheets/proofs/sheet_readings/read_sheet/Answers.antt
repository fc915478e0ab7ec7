use Rattle.std.proofs.Common.{◌∙◌, ◌++◌, [], List, ap, append-nil, map, refl, subst, sym}
use Rattle.sheets.proofs.Common.{Fields, below, Makes, body_line, top_records, HasReadSheet, line_of_entry}
use Rattle.std.proofs.lemmas.List.{drop-drop}
use Rattle.sheets.specs.Converted.{records_by}
use Rattle.sheets.specs.declared.record_lines.BodyLine.{BodyLine}
use Rattle.sheets.proofs.EachLemmas.{each_none}
use Rattle.sheets.proofs.LineWriterLemmas.{makes_both}
use Rattle.sheets.proofs.OutputLemmas.{none_read}
use Rattle.sheets.proofs.sheet_readings.read_sheet.Goals as goal

pub read_below-requires-clause-ready : goal.read_below-requires-clause-ready
read_below-requires-clause-ready g c =
    record { most = c.requires.most; none_noted = c.requires.notes; matched = c.requires.registers.counted }

pub returns-in_err-copy_top : goal.returns-in_err-copy_top
returns-in_err-copy_top g c =
    let choice = c.args.setup.now.choice in
    let records = records_by choice c.args.sheet.now in
    let old = c.args.writers.now in
    let top = rw c.records_of-records.ensures.left at c.copy_top.ensures.made in
    record {
      reads = [];
      read = none_read choice (below choice records) c.from_residual.result c.from_residual.ensures.1;
      notes = λ most h. h;
      sheet = subst (λ (xs : List Fields). Makes g.W.Output xs old.sheet c.copy_top.new.writer c.args.output.now
          c.copy_top.new.output) (sym (append-nil (top_records choice old.sheet.maker.width records))) top;
      registers = each_none g.W.Output line_of_entry choice [] old.registers.items c.args.files.now refl;
    }

pub returns : goal.returns
returns g c =
    let choice = c.args.setup.now.choice in
    let records = records_by choice c.args.sheet.now in
    let old = c.args.writers.now in
    let width = old.sheet.maker.width in
    let top = rw c.records_of-records.ensures.left at c.copy_top.ensures.made in
    let all = c.read_below.ensures in
    let under = (rw c.records_of-records.ensures.left at c.in_ok-copy_top.ensures.left)
    ∙ drop-drop 1 choice.above records in
    record {
      reads = all.reads;
      read = subst (λ (xs : List Fields). HasReadSheet choice xs all.reads c.read_below.result) under all.read;
      notes = λ most h. all.takes.notes [] most h;
      sheet = makes_both g.W.Output (top_records choice width records) _ _ old.sheet c.copy_top.new.writer
          c.read_below.new.writers.sheet c.args.output.now c.copy_top.new.output c.read_below.new.output
          (ap (λ (m : BodyLine). top_records choice width records ++ map (body_line m.width choice) all.reads)
          (sym top.maker)) top all.takes.sheet;
      registers = all.takes.registers;
    }
