use Rattle.std.proofs.Common.{inl}
use Rattle.sheet_app.proofs.conversions.convert_text.Goals as goal

pub returns-in-Err : goal.returns-in-Err
returns-in-Err g c = let ended = rw c.in-Err.is at c.write_asked.ensures in (ended.0, inl ended.1)
