use Rattle.sheets.specs.AskedOfSheets.{IsChoice}
use Rattle.page_module.proofs.EndingLemmas.{ends_by_cause}
use Rattle.page_module.proofs.sheet_tables.unknown_by.Goals as goal

pub returns-in-Err-clause-ends : goal.returns-in-Err-clause-ends
returns-in-Err-clause-ends c holds =
    ends_by_cause IsChoice c.args.sheet.now c.args.setup.now.choice c.in-Err.cause c.ending_of.result c.ending_of.ensures
    holds c.in-Err.ensures.no_names c.in-Err.ensures.too_many
