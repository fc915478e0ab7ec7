use Rattle.std.proofs.Common.{rules, ◌≡◌, Some, slice_get}
use Rattle.date_texts.specs.Calendars.{all_calendars}
use Rattle.register_records.specs.Entries.{text_records}
use Rattle.sheets.specs.NameLists.{IsListOf}
use Rattle.page_module.specs.DateReports.{IsStopped, choice_by}
use Rattle.page_module.specs.SheetReports.{PutsText}
use Rattle.page_module.proofs.dates.date_stop.Goals as goal

pub returns-in-Ok-stop_found-clause-stop : goal.returns-in-Ok-stop_found-clause-stop
returns-in-Ok-stop_found-clause-stop c done =
    let found : slice_get all_calendars c.args.request.now.calendar ≡ Some c.in-Some.calendar = search rules in
    let list : IsListOf (text_records 44 c.args.request.now.names.now) c.in-Ok.list.lines.items = search rules in
    let stopped : IsStopped c.in-Ok.list.lines.items (choice_by c.args.request.now.order) c.in-Some.calendar
    c.args.request.now.text.now c.in-Ok-stop_found.stop.number c.in-Ok-stop_found.stop.blame.items = search rules in
    let put : PutsText c.in-Ok-stop_found.stop.blame.items c.args.buffer.now c.copy_if_fits.new.room c.copy_if_fits.result =
    search rules in
    (_, _, _, found, list, stopped, put)
