use Rattle.register_run.proofs.Common.{◌≡◌, false, sent, taken, sender_lane, receiver_lane, AreOfAllTaken, AreOfTaken}
use Rattle.register_run.proofs.converting.send_rows.Given as goal

abbrev pub invariant-loop : goal.invariant-loop
invariant-loop g l = record {
  from : receiver_lane l.entries ≡ receiver_lane l.initial.entries;
  into : sender_lane l.rows ≡ sender_lane l.initial.rows;
  rows : AreOfTaken (taken l.entries) (sent l.rows);
  all : l.gone ≡ false → AreOfAllTaken (taken l.entries) (sent l.rows);
}
