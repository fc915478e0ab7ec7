use Rattle.sheets.proofs.UndatedLemmas.{undated_is_not_unread}
use Rattle.sheets.proofs.laws.undated_is_not_unread.Goals as goal

pub returns : goal.returns
returns c = undated_is_not_unread
