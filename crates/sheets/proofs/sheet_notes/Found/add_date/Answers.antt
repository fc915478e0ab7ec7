use Rattle.std.proofs.Common.{rules}
use Rattle.sheets.proofs.Common.{fields_of, as_text, date_seen}
use Rattle.sheets.specs.DateStops.{IsStopOf}
use Rattle.sheets.specs.UnknownNames.{IsShort}
use Rattle.sheets.proofs.NoteLemmas.{date_found, found_place, found_room}
use Rattle.sheets.proofs.sheet_notes.Found.add_date.Goals as goal

pub add-requires : goal.add-requires
add-requires c =
    found_place c.args.choice.now c.requires.space.dates c.requires.space.most c.args.self.now c.requires.space.is_found
    c.requires.space.few

pub add_name-requires : goal.add_name-requires
add_name-requires c here =
    found_room c.args.choice.now c.requires.space.dates c.requires.space.most c.args.self.now c.requires.space.is_found
    c.requires.space.few here

pub returns : goal.returns
returns c dates most found =
    let choice = c.args.choice.now in
    let column = c.args.column.now in
    let fields = fields_of c.args.fields.now in
    let (number, is) = c.requires.read in
    let seen = date_seen c.args.dates.now in
    let stopped : IsStopOf choice (column, fields) seen.stop
    = record {
      first = as_text seen.dated.first;
      last = as_text seen.dated.last;
      marks = seen.dated.marks;
      ends = is.dated.ends;
      stop = is.stop;
    } in
    let short : IsShort choice (column, fields) c.is_short-is_short.result
    = record {
      first = as_text seen.dated.first;
      last = as_text seen.dated.last;
      marks = seen.dated.marks;
      ends = is.dated.ends;
      is = search rules;
    } in
    date_found choice dates (column, fields) most c.args.self.now c.add_name.new.self seen.stop
    c.is_short-is_short.result stopped short
    (rw c.add_name.ensures.unread (rw c.stop-stop.ensures at c.add.ensures)) c.add_name.ensures.most
    (rw c.stop-stop.ensures at c.add_name.ensures.named) found
