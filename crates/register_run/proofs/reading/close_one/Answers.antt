use Rattle.register_run.proofs.Common.{refl}
use Rattle.lane_rings.specs.declared.item.Item.TheVariants as item
use Rattle.register_run.proofs.CarriedLemmas.{ended_by}
use Rattle.register_run.proofs.reading.close_one.Goals as goal

pub returns-in-Ok : goal.returns-in-Ok
returns-in-Ok g c = ended_by _ _ (item.End c.share_of.result) refl c.close.ensures.lane c.close.ensures.sent

pub returns-in-Err : goal.returns-in-Err
returns-in-Err g c = ended_by _ _ item.Stop refl c.stop.ensures.lane c.stop.ensures.sent
