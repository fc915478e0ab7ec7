use Rattle.std.proofs.Common.{◌≡◌, rules}
use Rattle.written_dates.specs.Fields.{calendar_meant, entries}
use Rattle.sheets.specs.declared.met_calendars.MetField.{MetField}
use Rattle.sheets.proofs.ListLemmas.{each_pushed}
use Rattle.sheets.proofs.met_calendars.MetCalendars.remember.Goals as goal

pub invariant_of-self : goal.invariant_of-self
invariant_of-self c =
    let names = c.make_room.new.self.names.now in
    let one : MetField = record { text = c.extend_from_slice.new.self; meaning = c.args.meaning } in
    let text : one.text.items ≡ c.args.field.now = search rules in
    let meant : one.meaning ≡ calendar_meant (entries names) one.text.items =
    rw (text, c.make_room.ensures) c.requires in
    record {
      known = each_pushed (λ (met : MetField). met.meaning ≡ calendar_meant (entries names) met.text.items) _
          c.make_room.new.self.met.items c.push.new.self.items one c.push.ensures.items c.make_room.new.self.known meant;
    }
