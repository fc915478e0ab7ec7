use Rattle.std.proofs.Common.{◌≡◌, ◌∙◌, ℕ, List, Option, ap, rules, subst, sym, None}
use Rattle.sheets.proofs.Common.{fields_of, Calendar, calendar_for, id_text, AreEndsIn, as_text, IsStopBy}
use Rattle.sheets.proofs.Common.{dated_seen}
use Rattle.std.proofs.lemmas.Result.{on_ok_weaker}
use Rattle.sheets.specs.private.SheetRecords.{stop_read}
use Rattle.sheets.specs.UnknownViews.{if_stop}
use Rattle.sheets.proofs.AcceptedLemmas.{accepted_date}
use Rattle.sheets.proofs.DateLemmas.{date_is_read}
use Rattle.sheets.proofs.sheet_records.ColumnDates.renew.Goals as goal

pub stop_beside-stop-requires-clause-stop : goal.stop_beside-stop-requires-clause-stop
stop_beside-stop-requires-clause-stop c has some =
    let choice = c.args.setup.now.choice in
    let column = c.args.column.now in
    let fields = fields_of c.args.fields.now in
    let meant = c.date_said-said.result.meant in
    let rows = c.convert.ensures.rows in
    let end = (dated_seen c.convert.new.self).first in
    let named : c.put_ends.new.self.calendar.items ≡ calendar_for choice column fields = search rules in
    subst (λ (called : Option Calendar). IsStopBy choice column fields end.text called None) (sym c.called_by.ensures)
    (accepted_date c.one_calendar.ensures choice column c.args.number fields c.id_of-id.result.now
    c.put_ends.new.self.calendar.items meant end named c.date_said-said.ensures.meant rows.first has
    (rw c.called_by.ensures at some))

pub returns-clause-read : goal.returns-clause-read
returns-clause-read c =
    let choice = c.args.setup.now.choice in
    let column = c.args.column.now in
    let fields = fields_of c.args.fields.now in
    let meant = c.date_said-said.result.meant in
    let put = c.put_ends.new.self in
    let rows = c.convert.new.self in
    let id : c.id_of-id.result.now ≡ id_text choice.id c.args.number fields = search rules in
    let named : put.calendar.items ≡ calendar_for choice column fields = search rules in
    let ends = subst (λ (field : List ℕ). AreEndsIn meant choice.spans choice.reading choice.names.now.listed.now field
    (as_text (dated_seen put).first) (as_text (dated_seen put).last) put.marks) c.date_said-said.ensures.text
    c.in_ok-put_ends.ensures.ends in
    let stops = subst (λ (called : Option Calendar). IsStopBy choice column fields (dated_seen rows).first.text called
    (if_stop c.stop_beside-stop.result)) c.called_by.ensures c.stop_beside-stop.ensures in
    let last = c.put_edtf.ensures in
    on_ok_weaker c.put_edtf.result (λ edtf. date_is_read choice column c.args.number fields c.id_of-id.result.now meant
    (if_stop c.stop_beside-stop.result) put rows c.put_edtf.new.self named c.date_said-said.ensures.meant id ends
    c.convert.ensures.rows stops (ap stop_read last.stop ∙ c.in_ok-renew.ensures) last.calendar last.first last.last
    last.marks edtf) last.edtf
