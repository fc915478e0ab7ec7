use Rattle.std.proofs.Common.{refl}
use Rattle.sheets.proofs.CountLemmas.{none_at}
use Rattle.sheets.proofs.date_counts.SheetCounts.none.Goals as goal

pub returns : goal.returns
returns c columns = record { dates = λ place low. none_at c.none.result 8 place c.none.ensures; blank = refl }
