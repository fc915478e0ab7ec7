-- What is known was made of what the task asks, with the names of the list and the headings of the sheet.
use Rattle.std.proofs.Common.{◌∙◌, ap, map}
use Rattle.sheet_app.proofs.Common.{bare_name}
use Rattle.sheets.specs.AskedOfSheets.{asked_in}
use Rattle.sheets.specs.Headings.{items_of}
use Rattle.sheets.proofs.AskedOfSheetLemmas.{listed_choice}
use Rattle.sheet_app.specs.private.Conversions.{lines_by, task_by}
use Rattle.sheet_app.proofs.EndLemmas.{asks_for}
use Rattle.sheet_app.proofs.conversions.write_asked.Goals as goal

pub write_known-requires : goal.write_known-requires
write_known-requires g c =
    let known = c.in_ok-known.ensures in
    let by = c.args.by.now in
    let lines = lines_by by in
    let sheet = c.args.sheet.now in
    let asked = asked_in c.in_ok-asked.asked in
    asks_for (task_by by) lines sheet c.in_ok-known.known asked by.task c.in_ok-asked.ensures.asked
    (λ choice is. listed_choice c.in_ok-known.known asked lines sheet c.in_ok-names.names.items
    c.in_ok-calendars.calendars.items (items_of c.in_ok-headings.headings.items) choice c.in_ok-names.ensures
    c.in_ok-calendars.ensures c.in_ok-headings.ensures (ap asked_in known.asked) (known.names ∙ c.as_slice.ensures.value)
    (known.calendars ∙ ap (map bare_name) c.as_slice-2.ensures.value)
    (known.headings ∙ ap items_of c.as_slice-3.ensures.value) is)
