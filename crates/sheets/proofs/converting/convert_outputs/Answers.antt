use Rattle.sheets.proofs.OutputLemmas.{nothing_made, sheet_none}
use Rattle.sheets.specs.Converted.{records_by}
use Rattle.sheets.proofs.converting.convert_outputs.Goals as goal

pub returns-in-Err : goal.returns-in-Err
returns-in-Err g c =
    let choice = c.args.setup.now.choice in
    let records = records_by choice c.args.sheet.now in
    record {
      sheet = sheet_none g.W.Output choice records c.args.output.now c.in-Err.cause c.in-Err.ensures.fault
          c.broken.result.sheet c.broken.ensures.sheet;
      registers = nothing_made g.W.Output choice records c.in-Err.cause c.args.registers.now c.in-Err.ensures.fault
          c.broken.result.registers c.broken.ensures.registers;
    }
