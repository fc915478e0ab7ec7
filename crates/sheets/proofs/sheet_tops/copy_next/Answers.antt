use Rattle.sheets.proofs.sheet_tops.copy_next.Goals as goal

pub returns-in-Err-clause-made : goal.returns-in-Err-clause-made
returns-in-Err-clause-made g c = c.cut.ensures _
