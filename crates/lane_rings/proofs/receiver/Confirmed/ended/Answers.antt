-- How the lane ended is the mark of its last item.
use Rattle.std.proofs.Common.{◌∙◌, Some, ap}
use Rattle.lane_rings.proofs.receiver.Confirmed.ended.Goals as goal

pub returns-in-Counted : goal.returns-in-Counted
returns-in-Counted g c = c.args.self.now.ends ∙ ap Some c.in-Counted.is

pub returns-in-Stopped : goal.returns-in-Stopped
returns-in-Stopped g c = c.args.self.now.ends ∙ ap Some c.in-Stopped.is
