use Rattle.std.proofs.Common.{refl}
use Rattle.sheets.proofs.NoteLemmas.{none_found}
use Rattle.sheets.proofs.sheet_notes.Found.none.Goals as goal

pub returns : goal.returns
returns c choice = none_found choice _ c.args.most refl c.none.ensures c.new.ensures.items refl
