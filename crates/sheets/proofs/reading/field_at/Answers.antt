use Rattle.std.proofs.Common.{sym}
use Rattle.csv.proofs.RecordFacts.{field-get}
use Rattle.sheets.proofs.SheetLemmas.{absent}
use Rattle.sheets.proofs.reading.field_at.Goals as goal

pub returns-in-Some : goal.returns-in-Some
returns-in-Some c = sym (field-get _ _ _ (sym c.in-Some.ensures.value))

pub returns-in-None : goal.returns-in-None
returns-in-None c = sym (absent _ _ (sym c.in-None.ensures.value))
