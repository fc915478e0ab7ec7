use Rattle.std.proofs.Common.{refl}
use Rattle.sheets.proofs.sheet_notes.SheetNotes.none.Goals as goal

pub returns : goal.returns
returns c choice =
    record { records = refl; counts = c.none.ensures choice.dates.now; found = c.none-2.ensures choice }
