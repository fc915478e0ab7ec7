use Rattle.std.proofs.Common.{refl}
use Rattle.date_parts.proofs.RecordLemmas.{gains_one, then_ok}
use Rattle.date_parts.proofs.joined_sheets.JoinedSheet.put_own.Goals as goal

pub returns : goal.returns
returns c = then_ok c.write.result _ _ c.write.ensures (λ gains. gains_one _ _ _ gains refl refl)
