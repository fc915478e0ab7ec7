use Rattle.std.proofs.Common.{◌≡◌, ◌∙◌, ◌∷◌, [], ℕ, List, ap, rules}
use Rattle.sheets.proofs.Common.{fields_of, id_text, date_seen, record_read}
use Rattle.sheets.specs.CalendarChanges.{end_calendar}
use Rattle.sheets.specs.private.RecordLines.{entry_at, entry_of}
use Rattle.sheets.specs.private.SheetRecords.{end_seen}
use Rattle.sheets.proofs.LineLemmas.{both_gained, gained_at_last}
use Rattle.sheets.proofs.record_lines.push_entry.Goals as goal

same_three : {a b c d e f : List ℕ} → a ≡ d → b ≡ e → c ≡ f → a ∷ b ∷ c ∷ [] ≡ d ∷ e ∷ f ∷ []
same_three x y z = cc

pub returns : goal.returns
returns c =
    let old = c.args.lines.now in
    let choice = c.args.setup.now.choice in
    let read = c.args.of_sheet.now in
    let id : c.id_of.result.now ≡ id_text choice.id read.number (fields_of read.fields) = search rules in
    let calendar = c.args.dates.now.calendar.items in
    let named : c.name.result.now ≡ end_calendar (end_seen c.end-end.result.now).calendar calendar
    = c.name.ensures ∙ ap (end_calendar (end_seen c.end-end.result.now).calendar) c.as_slice.ensures.value in
    gained_at_last c.push-3.result _ _ (entry_of choice (record_read read) c.args.end (date_seen c.args.dates.now)) old
    c.push-2.new.self c.push-3.new.self
    (both_gained _ _ old c.push.new.self c.push-2.new.self c.in_ok-push.ensures c.in_ok-push-2.ensures) c.push-3.ensures
    (same_three id named c.as_slice-2.ensures.value
    ∙ ap (entry_at choice (record_read read) calendar) c.end-end.ensures)
