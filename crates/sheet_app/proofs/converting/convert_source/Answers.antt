-- What is converted is the text that was read.
use Rattle.std.proofs.Common.{inl, inr, refl, rules}
use Rattle.sheet_app.specs.EndedSheets.{Gives}
use Rattle.sheet_app.proofs.converting.convert_source.Goals as goal

pub returns-in-Ok : goal.returns-in-Ok
returns-in-Ok g c =
    let text = c.read_to_end.new.buf.items in
    let gives : Gives g.R.Read c.args.source.now text = search rules in
    inr (text, gives, c.convert_read.ensures)

pub returns : goal.returns
returns g c = inl (c.fault_of_reading.result, c.fault_of_reading.ensures, refl, refl, refl)
