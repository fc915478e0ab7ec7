use Rattle.std.proofs.Common.{◌≤◌, ap, arith, length, map, rules, subst, sym, OnOk}
use Rattle.sheets.proofs.Common.{Fields, GainsFields, date_seen, record_read}
use Rattle.std.proofs.lemmas.List.{length-map}
use Rattle.std.proofs.lemmas.Option.{slice_get_past}
use Rattle.sheets.specs.private.RecordLines.{if_dated}
use Rattle.sheets.proofs.LineLemmas.{none_gained}
use Rattle.sheets.proofs.RowLemmas.{seen_at}
use Rattle.sheets.proofs.record_lines.EntryLineRecordLine.push.Goals as goal

pub returns-in-Some : goal.returns-in-Some
returns-in-Some c =
    let choice = c.args.setup.now.choice in
    let read = record_read c.args.of_sheet.now in
    let place = c.args.self.now.place in
    let end = c.args.self.now.end in
    let columns = c.args.of_sheet.now.columns.items in
    let dates = c.in-Some.dates.now in
    let found = rw c.deref.ensures.value at c.in-Some.ensures.lookup in
    subst (λ (fields : Fields). OnOk c.push_entry.result (GainsFields fields c.args.lines.now c.push_entry.new.lines))
    (sym (ap (if_dated choice read end) (seen_at date_seen columns place dates found.3.0 found.1))) c.push_entry.ensures

pub returns-in-None : goal.returns-in-None
returns-in-None c =
    let choice = c.args.setup.now.choice in
    let read = record_read c.args.of_sheet.now in
    let place = c.args.self.now.place in
    let end = c.args.self.now.end in
    let columns = c.args.of_sheet.now.columns.items in
    let past : length columns ≤ place = search rules in
    subst (λ (fields : Fields). GainsFields fields c.args.lines.now c.args.lines.now)
    (sym (ap (if_dated choice read end) (slice_get_past (map date_seen columns) place
    (omega (arith, past, length-map columns date_seen))))) (none_gained c.args.lines.now)
