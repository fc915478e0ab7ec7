-- The end is the last item that is sent.
use Rattle.lane_rings.proofs.sender.Sender.close.Goals as goal

pub returns-clause-sent : goal.returns-clause-sent
returns-clause-sent g c = c.finish.ensures.sent
