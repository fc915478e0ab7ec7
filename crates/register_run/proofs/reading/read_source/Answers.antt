use Rattle.register_run.proofs.Common.{◌∙◌, subst, ∥∥₁_map, AllZip-long, HasEnded, AreOfLanes}
use Rattle.register_run.proofs.StripeLemmas.{ended_lanes, dealt_ended}
use Rattle.register_run.proofs.reading.read_source.Goals as goal

pub returns : goal.returns
returns g c =
    let senders = c.send_entries-sent.new.senders.items in
    let closed = c.close_all-closed.result.items in
    let ends = c.close_all-closed.ensures in record {
      from =
          subst (λ lanes. AreOfLanes lanes closed) c.send_entries-sent.ensures.lanes
          (ended_lanes senders closed ends);
      entries =
          ∥∥₁_map c.send_entries-sent.ensures.sends
          (λ (given, is, deals). (
            given,
            is,
            λ w many.
                dealt_ended w 0 given senders closed ends (deals w (many ∙ AllZip-long HasEnded senders closed ends)),
          ));
      not_of_output = c.send_entries-sent.ensures.not_of_output;
      started = c.send_entries-sent.ensures.started;
    }
