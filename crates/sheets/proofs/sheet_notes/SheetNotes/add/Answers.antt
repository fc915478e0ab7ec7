use Rattle.std.proofs.Common.{◌∙◌, ap, length, refl}
use Rattle.sheets.proofs.Common.{fields_of, record_read}
use Rattle.sheets.proofs.NoteLemmas.{columns_count, notes_more, notes_space, notes_up_to}
use Rattle.sheets.proofs.ReadingLemmas.{rows_in}
use Rattle.sheets.proofs.sheet_notes.SheetNotes.add.Goals as goal

pub returns : goal.returns
returns c reads most noted =
    notes_more c.args.choice.now reads (record_read c.args.of_sheet.now) most c.args.self.now _ refl
    (rw (c.as_slice.ensures.value, ← rows_in c.args.of_sheet.now.columns.items) at c.add.ensures)
    (c.add_record.ensures) noted

pub add-requires-clause-dates : goal.add-requires-clause-dates
add-requires-clause-dates c =
    let of_sheet = c.args.of_sheet.now in
    ap length c.as_slice.ensures.value
    ∙ columns_count c.args.choice.now of_sheet.number (fields_of of_sheet.fields) c.args.choice.now.dates.now
    of_sheet.columns.items c.requires.read

pub add-requires-clause-room : goal.add-requires-clause-room
add-requires-clause-room c = notes_up_to c.args.choice.now c.args.self.now c.requires.space

pub add_record-requires-clause-space : goal.add_record-requires-clause-space
add_record-requires-clause-space c = notes_space c.args.choice.now c.args.self.now c.requires.few c.requires.space
