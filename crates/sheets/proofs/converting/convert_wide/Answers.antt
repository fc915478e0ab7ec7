use Rattle.std.proofs.Common.{◌∙◌, ◌++◌, [], ℕ, map, subst}
use Rattle.sheets.proofs.Common.{AreLines, Produced, ending_of, body_line, top_records}
use Rattle.sheets.specs.Converted.{records_by}
use Rattle.sheets.proofs.LineWriterLemmas.{holds_waiting}
use Rattle.sheets.proofs.OutputLemmas.{registers_produced, sheet_produced}
use Rattle.sheets.proofs.converting.convert_wide.Goals as goal

pub finish-answer-requires : goal.finish-answer-requires
finish-answer-requires g c = c.read_sheet-read.ensures.read.causes

pub returns : goal.returns
returns g c =
    let o = g.W.Output in
    let choice = c.args.setup.now.choice in
    let records = records_by choice c.args.sheet.now in
    let new = c.requires in
    let start = c.args.writers.now in
    let all = c.read_sheet-read.ensures in
    let width = start.sheet.maker.width in
    let lines = top_records choice width records ++ map (body_line width choice) all.reads in
    let holds = all.sheet.holds c.args.output.now []
    (holds_waiting o c.args.output.now start.sheet choice.delimiter [] new.sheet) in
    let (answers, many, first, finished) = rw c.as_mut_slice.ensures.value at c.finish_each.ensures in
    record {
      sheet = sheet_produced choice records all.reads new.named c.read_sheet-read.result all.read o c.args.output.now
          c.finish-answer.new.output width new.wide c.read_sheet-read.new.writers.notes new.most (all.notes new.most
          new.notes) c.finish-answer.result (c.finish-answer.ensures c.args.output.now lines holds).1
          (subst (λ (d : ℕ). Produced o c.args.output.now c.finish-answer.new.output (ending_of c.finish-answer.result)
          (AreLines d lines c.finish-answer.result)) (all.sheet.delimiter ∙ new.sheet.by)
          (c.finish-answer.ensures c.args.output.now lines holds).0) c.sheet_end.result c.sheet_end.ensures;
      registers = registers_produced o choice records c.read_sheet-read.result c.finish_each.result
          start.registers.items _ _ c.args.registers.now _ c.finish_each.new.files all.reads answers new.named all.read
          new.registers all.registers many first finished;
    }
