-- What is converted is the sheet of the text.
use Rattle.std.proofs.Common.{inl, inr, refl}
use Rattle.sheet_app.proofs.converting.convert_read.Goals as goal

pub returns-in-Ok : goal.returns-in-Ok
returns-in-Ok g c =
    inr (c.in-Ok.sheet.items, c.in-Ok.ensures.sheet, rw c.as_slice.ensures.value at c.convert_text.ensures)

pub returns-in-Err : goal.returns-in-Err
returns-in-Err g c = inl (c.in-Err.fault, c.in-Err.ensures.fault, refl, refl, refl)
