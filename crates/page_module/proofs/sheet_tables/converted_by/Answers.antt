use Rattle.std.proofs.Common.{rules}
use Rattle.sheets.specs.AskedOfSheets.{IsChoice}
use Rattle.page_module.proofs.EndingLemmas.{ends_by_cause, made_whole}
use Rattle.page_module.proofs.sheet_tables.converted_by.Goals as goal

pub returns-in-Whole-clause-whole : goal.returns-in-Whole-clause-whole
returns-in-Whole-clause-whole c =
    let made = rw c.in-Whole.is at c.convert_sheet-end.ensures in
    made_whole c.new-output.result.inner.items c.convert_sheet-end.new.output.inner.items
    c.into_inner-text.result.items _ made.0 (search rules) (search rules)

pub returns-in-Broken-clause-ends : goal.returns-in-Broken-clause-ends
returns-in-Broken-clause-ends c holds =
    let made = rw c.in-Broken.is at c.convert_sheet-end.ensures in
    ends_by_cause IsChoice c.args.sheet.now c.args.setup.now.choice c.in-Broken.cause c.ending_of.result
    c.ending_of.ensures holds (λ is. (rw is at made).1.1) (λ is. (rw is at made).0.1.more)
